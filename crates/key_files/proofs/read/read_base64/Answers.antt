-- What the raw file answers is one answer of the base64 file: a fault as it is, bytes decoded.
use Rattle.key_files.proofs.Base64.{base64_meaning-never_long}
use Rattle.key_files.proofs.Base64Back.{files_encode}
use Rattle.key_files.proofs.Whole.{ReadsAs-decoded, ReadsAs-failed}
use Rattle.key_files.proofs.read.read_base64.Goals as goal

pub returns-in_err-file-clause-read : goal.returns-in_err-file-clause-read
returns-in_err-file-clause-read g c =
    let answer = c.from_residual in
    ReadsAs-failed answer.result c.in_err-file.field-0.0 answer.ensures.1 c.in_err-file.ensures

pub returns-in_err-file-clause-exact : goal.returns-in_err-file-clause-exact
returns-in_err-file-clause-exact g c = files_encode

pub returns-clause-read : goal.returns-clause-read
returns-clause-read g c = ReadsAs-decoded _ (base64_meaning-never_long _) c.in_ok-file.ensures (rw c.deref.ensures.value at (c.decode_base64.ensures.meaning))

pub returns-clause-exact : goal.returns-clause-exact
returns-clause-exact g c = files_encode
