-- The machine was given the text: its first word, and the rest copied into the buffer for the key.
use Rattle.std.proofs.Common.{rules, ◌≡◌, ℕ, List, length, take, ◌+◌, arith, refl, ap, ◌∙◌, length-append}
use Rattle.block_pair.specs.Metered.{counted}
use Rattle.key_wrap_core.specs.Words.{word_bytes}
use Rattle.key_wrap_core.specs.Lengths.{IsPlainTextLength}
use Rattle.key_wrap_core.specs.BlockCalls.{block_calls}
use Rattle.key_wrap_core.specs.InPlace.{ArePlainLengths}
use Rattle.key_wrap_core.proofs.Spelling.{read_word, each_byte, length-word_bytes}
use Rattle.key_wrap_core.proofs.InPlaceForm.{text_again}
use Rattle.key_wrap_core.proofs.Unwrappings.{renamed, legally}
use Rattle.key_wrap_core.proofs.into_with.unwrap_into_with.Goals as goal

pub returns : goal.returns
returns g c =
    let text : List ℕ = c.args.text.now in
    let A : ℕ = c.read_u64.result in
    let legal = c.text_length_ok.ensures.0 c.if-not-text_length_ok.false in
    let lengths : ArePlainLengths (length c.args.key.now) (length text) = ((omega arith, omega arith, omega arith), omega arith) in
    let front : word_bytes A ≡ take 8 text = read_word text A (omega arith) (each_byte text (search rules)) c.read_u64.ensures in
    let whole = text_again A text c.copy_from_slice.new.self (omega arith) front c.copy_from_slice.ensures.after in
    let w = rw c.word.ensures.value at c.unwrap_registers.ensures in
    let size : 8 + length c.copy_from_slice.new.self ≡ length text =
    omega (arith, ap length whole, length-append (word_bytes A) c.copy_from_slice.new.self, length-word_bytes A) in
    let u = legally legal lengths (renamed IsPlainTextLength whole refl w.answer) in
    record {
      unwraps = u;
      refused = record { kept = λ e. absurd (u.bad_length.0 e lengths); cleared = w.cleared };
      calls = record {
        kept = λ e. absurd (u.bad_length.0 e lengths);
        counts = λ _. w.calls ∙ ap (λ (len : ℕ). counted (block_calls len) c.args.meter.now) size;
      };
    }
