-- While all were digits, the bytes so far are decoded.
use Rattle.std.proofs.Common.{◌≡◌, ◌*◌, true, length}
use Rattle.key_files.proofs.Strict.{DecodedTo}
use Rattle.key_files.proofs.hex_text.decode_strict.Given as goal

abbrev pub invariant-loop-i : goal.invariant-loop-i
invariant-loop-i l = (length l.text ≡ 2 * length l.bytes) × (l.all_digits ≡ true → DecodedTo l.text l.bytes l.i)
