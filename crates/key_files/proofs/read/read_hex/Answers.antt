-- What the raw file answers is one answer of the hex file: a fault as it is, bytes decoded.
use Rattle.key_files.proofs.Denoting.{DecodesHex-means, hex_meaning-never_long}
use Rattle.key_files.proofs.Whole.{ReadsAs-decoded, ReadsAs-failed}
use Rattle.key_files.proofs.read.read_hex.Goals as goal

pub returns-in_err-text : goal.returns-in_err-text
returns-in_err-text g c =
    let answer = c.from_residual in
    ReadsAs-failed answer.result c.in_err-text.field-0.0 answer.ensures.1 c.in_err-text.ensures

pub returns : goal.returns
returns g c = ReadsAs-decoded _ (hex_meaning-never_long _) c.in_ok-text.ensures (rw c.deref.ensures.value at (DecodesHex-means _ c.decode_hex.result c.decode_hex.ensures))
