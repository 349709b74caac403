-- The key follows the first word of the text's buffer.
use Rattle.std.proofs.Common.{rules, ◌≡◌, ℕ, List, length, drop, ◌-◌, ◌++◌, arith, ◌∙◌, refl}
use borrow.Rule.Slice.PartMut.{put_mid}
use Rattle.block_pair.specs.Words.{IsWord}
use Rattle.key_wrap_core.specs.declared.forms.Form.TheVariants as forms
use Rattle.key_wrap_core.specs.Words.{word_bytes}
use Rattle.key_wrap_core.proofs.Refusals.{ok_or_err}
use Rattle.key_wrap_core.proofs.InPlaceForm.{registers_now}
use Rattle.key_wrap_core.proofs.EitherForms.{wraps_found}
use Rattle.key_wrap_core.proofs.into_with.wrap_into_with.Goals as goal

pub returns : goal.returns
returns g c =
    let text : List ℕ = c.args.text.now in
    let iv : ℕ = c.args.iv.now in
    let legal = c.key_length_ok.ensures.0 c.if-not-key_length_ok.false in
    let held : drop 8 (put_mid 8 (length text - 8) text c.copy_from_slice.new.self) ≡ c.args.key.now =
    registers_now text c.copy_from_slice.new.self (omega arith) (search rules) ∙ c.copy_from_slice.ensures.after in
    let small : IsWord c.word.result = search rules in
    let run = rw (c.word.ensures.value, held) at c.wrap_buffer.ensures.wrapped in
    record {
      wraps = wraps_found iv forms.Plain c.args.key.now (word_bytes iv ++ c.args.key.now) text c.wrap_buffer.new.buf
          (g.met.B.BlockPair.lawful c.args.meter.now.pair) c.word.ensures.free (legal, omega arith) (legal, refl, rw c.word.ensures.value at small) run;
      calls = record { kept = λ e. ok_or_err e; counts = λ _. search rules };
    }
