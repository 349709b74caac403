-- The promise of key_wrap_core under the default initial value, by status.
use Rattle.std.proofs.Common.{arith}
use Rattle.std.proofs.lemmas.Grind.{common_steps}
use Rattle.keywrap_calls.proofs.any_steps.end_unwrap_any.Goals as goal

pub returns-in-Ok : goal.returns-in-Ok
returns-in-Ok c = record {
  statuses = grind (arith, common_steps);
  bad_length = grind (arith, common_steps, c.in-Ok.ensures.bad_length);
  kept = grind (arith, common_steps);
  none = grind (arith, common_steps);
  answer = λ _ E D text inv state.
      let u = rw c.default.ensures at (c.in-Ok.ensures.answer (λ e. cc) E D text inv state) in
      rw c.flag_of.ensures.is (u.answer, u.other_form);
  integrity = λ s. absurd (let wrong = s in cc);
  flag = c.flag_of.ensures.bit;
  size = λ _. c.in-Ok.ensures.key.size;
  around = λ _. c.in-Ok.ensures.key.around;
  cleared = λ s. absurd (let wrong = s in cc);
  block_cleared = λ _. c.in-Ok.ensures.block_cleared (λ e. cc);
}

pub returns-in-Err-Integrity : goal.returns-in-Err-Integrity
returns-in-Err-Integrity c =
    let told = rw c.in-Err-Integrity.field-0-is at c.in-Err-Integrity.ensures in
    record {
      statuses = grind (arith, common_steps);
      bad_length = grind (arith, common_steps, told.bad_length);
      kept = grind (arith, common_steps);
      none = grind (arith, common_steps);
      answer = λ s. absurd (let wrong = s in cc);
      integrity = λ _ E D text inv state.
          let u = rw c.default.ensures at (told.answer (λ e. cc) E D text inv state) in (u.integrity.0 cc).1;
      flag = grind (arith, common_steps);
      size = λ s. absurd (let wrong = s in cc);
      around = λ s. absurd (let wrong = s in cc);
      cleared = λ _. told.refused.cleared cc;
      block_cleared = λ _. told.block_cleared (λ e. cc);
    }
