-- The promise of key_wrap_core, by status.
use Rattle.std.proofs.Common.{arith}
use Rattle.std.proofs.lemmas.Grind.{common_steps}
use Rattle.keywrap_calls.proofs.unwrap_steps.end_unwrap_padded.Goals as goal

pub returns-in-Ok : goal.returns-in-Ok
returns-in-Ok c = record {
  statuses = grind (arith, common_steps);
  bad_length = grind (arith, common_steps, c.in-Ok.ensures.bad_length);
  kept = grind (arith, common_steps);
  no_key = grind (arith, common_steps);
  answer = λ _ E D text inv state.
      let u = c.in-Ok.ensures.answer (λ e. cc) E D text inv state in (u.answer.1, u.other_form);
  only_key = λ _ E D text other inv state wrapping.
      let u = c.in-Ok.ensures.answer (λ e. cc) E D text inv state in u.only_key other wrapping;
  integrity = λ s. absurd (let wrong = s in cc);
  size = λ _. c.in-Ok.ensures.key.size;
  around = λ _. c.in-Ok.ensures.key.around;
  cleared = λ s. absurd (let wrong = s in cc);
  block_cleared = λ _. c.in-Ok.ensures.block_cleared (λ e. cc);
}

pub returns-in-Err-Integrity : goal.returns-in-Err-Integrity
returns-in-Err-Integrity c =
    let told = rw c.in-Err-Integrity.field-0-is at c.in-Err-Integrity.ensures in
    record {
      statuses = grind (arith, common_steps);
      bad_length = grind (arith, common_steps, told.bad_length);
      kept = grind (arith, common_steps);
      no_key = grind (arith, common_steps);
      answer = λ s. absurd (let wrong = s in cc);
      only_key = λ s. absurd (let wrong = s in cc);
      integrity = λ _ E D text inv state. let u = told.answer (λ e. cc) E D text inv state in u.answer.1;
      size = λ s. absurd (let wrong = s in cc);
      around = λ s. absurd (let wrong = s in cc);
      cleared = λ _. told.refused.cleared cc;
      block_cleared = λ _. told.block_cleared (λ e. cc);
    }
