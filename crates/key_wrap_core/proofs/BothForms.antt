-- No text is a wrapping in both forms.
use Rattle.std.proofs.Common.{ℕ, ◌≤◌, List, length, ◌++◌, arith, length-append}
use Rattle.block_pair.specs.Pair.{AreInverse}
use Rattle.key_wrap_core.specs.Words.{word_bytes}
use Rattle.key_wrap_core.specs.Plain.{Plain, IsReserved}
use Rattle.key_wrap_core.specs.Padded.{Padded, aiv, padded}
use Rattle.key_wrap_core.proofs.Spelling.{length-word_bytes, word_front}
use Rattle.key_wrap_core.proofs.Tapes.{wraps_iv}
use Rattle.key_wrap_core.proofs.PlainForm.{plain_registers}
use Rattle.key_wrap_core.proofs.PaddedForm.{aiv_word, many_registers, padded_registers, padded_registers_backward}

-- the initial value of the padded form is reserved
pub not_both_forms : {E D : List ℕ → List ℕ} {iv : ℕ} {key other text : List ℕ} → AreInverse E D → ¬ IsReserved iv → Plain E iv key text
    → ¬ Padded E other text
not_both_forms {iv = iv} {key = key} {other = other} inv free h k =
    let size : 24 ≤ length (word_bytes iv ++ key) = omega (arith, length-append (word_bytes iv) key, length-word_bytes iv, h.legal.1) in
    let same = padded_registers_backward inv (many_registers size (plain_registers h)) (padded_registers k) in
    let front = word_front iv (aiv (length other)) key (padded other) (wraps_iv h.wraps) (aiv_word (length other) k.legal.1) same in
    absurd (free (omega (arith, front.0, k.legal.1)))
