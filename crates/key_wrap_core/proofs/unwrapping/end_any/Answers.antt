-- The initial value found and the registers hold a key in one of the forms, or none.
use Rattle.std.proofs.Common.{rules, ◌≡◌, ℕ, List, ◌++◌, refl, inl, inr}
use Rattle.key_wrap_core.specs.Words.{word_bytes}
use Rattle.key_wrap_core.specs.Forms.{with_value}
use Rattle.key_wrap_core.proofs.Refusals.{passed_on}
use Rattle.key_wrap_core.proofs.Unwrappings.{text_size}
use Rattle.key_wrap_core.proofs.FoundForms.{found_wrapping, no_form, padded_none_held}
use Rattle.key_wrap_core.proofs.EitherForms.{any_held, either_found, either_none, no_key_in}
use Rattle.key_wrap_core.proofs.unwrapping.end_any.Goals as goal

pub returns : goal.returns
returns c =
    let iv : ℕ = c.args.iv in
    let found : ℕ = c.args.found in
    let registers : List ℕ = c.args.registers.now in
    let d = c.in_ok-decide.ensures in
    let key = c.found_key.result in
    let told = rw d.kept at c.found_key.ensures.plain in
    let held = any_held iv found c.padded_difference-padded.result c.plain_difference-plain.result registers key (search rules)
    (c.either.ensures.0 (d.passes.0 refl)) c.plain_difference-plain.ensures.passes c.padded_difference-padded.ensures.passes c.found_key.ensures.padded told in
    rw d.kept (record {
      ends = record {
        answer = λ E D text inv run. either_found iv key _ text inv c.requires.free (rw (text_size found registers text inv run) c.requires.length)
            (found_wrapping (with_value key.form iv) _ (word_bytes found ++ registers) text held.0 run);
        only_fault = tt;
        cleared = λ e. cc;
      };
      key = record { size = held.1; around = held.2 };
    })

pub returns-in_err-decide : goal.returns-in_err-decide
returns-in_err-decide c =
    let iv : ℕ = c.args.iv in
    let found : ℕ = c.args.found in
    let registers : List ℕ = c.args.registers.now in
    let before : List ℕ = word_bytes found ++ registers in
    let d = c.in_err-decide.ensures in
    let some : ¬ (c.either.result ≡ 0) = λ zero. absurd (let ok = d.passes.1 zero in cc) in
    let plain = c.plain_difference-plain.ensures.refuses (λ zero. some (c.either.ensures.1 (inl zero))) in
    let padded = padded_none_held before (c.padded_difference-padded.ensures.refuses (λ zero. some (c.either.ensures.1 (inr zero)))) in
    rw (passed_on c.from_residual.result c.in_err-decide.field-0.0 c.from_residual.ensures, d.only_fault) (record {
      ends = record {
        answer = λ E D text inv run. either_none iv _ text (rw (text_size found registers text inv run) c.requires.length)
            (no_key_in iv before text inv run (no_form iv before plain padded));
        only_fault = refl;
        cleared = λ e. d.cleared refl;
      };
      key = tt;
    })
