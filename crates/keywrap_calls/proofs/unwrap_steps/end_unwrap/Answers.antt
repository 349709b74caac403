-- The promise of key_wrap_core for the initial value of these bytes, by status.
use Rattle.std.proofs.Common.{◌≡◌, ℕ, subst, arith}
use Rattle.std.proofs.lemmas.Grind.{common_steps}
use Rattle.key_wrap_core.specs.Plain.{Plain}
use Rattle.key_wrap_core.specs.Padded.{Padded}
use Rattle.key_wrap_core.specs.NoKey.{NoKey}
use Rattle.keywrap_calls.specs.CallAnswers.{IsUnwrapAnswer}
use Rattle.keywrap_calls.specs.AgreedValue.{iv_word}
use Rattle.keywrap_calls.proofs.unwrap_steps.end_unwrap.Goals as goal

pub returns-in-Ok : goal.returns-in-Ok
returns-in-Ok c =
    let word : c.in-Some.value ≡ iv_word c.args.iv.now = c.in-Some.ensures.given.1 in
    record {
      statuses = grind (arith, common_steps);
      bad_iv = grind (arith, common_steps, c.in-Some.ensures.given);
      bad_length = grind (arith, common_steps, c.in-Some.ensures.given, c.in-Ok.ensures.bad_length);
      kept = grind (arith, common_steps);
      answer = λ _ E D text inv state.
          let u = c.in-Ok.ensures.answer (λ e. cc) E D text inv state in
          subst (λ (v : ℕ). IsUnwrapAnswer (Plain E v) (Padded E) text c.end_unwrap.new.registers) word
          (record { wrapping = u.answer.1; only_key = u.only_key; restores = u.restores; other_form = u.other_form });
      integrity = λ s. absurd (let wrong = s in cc);
      cleared = λ s. absurd (let wrong = s in cc);
      block_cleared = λ _. c.in-Ok.ensures.block_cleared (λ e. cc);
    }

pub returns-in-Err-Integrity : goal.returns-in-Err-Integrity
returns-in-Err-Integrity c =
    let word : c.in-Some.value ≡ iv_word c.args.iv.now = c.in-Some.ensures.given.1 in
    let told = rw c.in-Err-Integrity.field-0-is at c.in-Err-Integrity.ensures in
    record {
      statuses = grind (arith, common_steps);
      bad_iv = grind (arith, common_steps, c.in-Some.ensures.given);
      bad_length = grind (arith, common_steps, c.in-Some.ensures.given, told.bad_length);
      kept = grind (arith, common_steps);
      answer = λ s. absurd (let wrong = s in cc);
      integrity = λ _ E D text inv state.
          let u = told.answer (λ e. cc) E D text inv state in
          subst (λ (v : ℕ). NoKey (Plain E v) text) word u.answer.1;
      cleared = λ _. told.refused.cleared cc;
      block_cleared = λ _. told.block_cleared (λ e. cc);
    }
