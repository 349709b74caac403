-- The steps led back to an initial value and registers.
use Rattle.std.proofs.Common.{◌≡◌, arith}
use Rattle.key_wrap_core.proofs.Refusals.{never_bad}
use Rattle.key_wrap_core.proofs.UnwrapStepping.{unended_padded}
use Rattle.key_wrap_steps.proofs.unwrap_steps.end_unwrap_padded.Goals as goal

pub returns : goal.returns
returns c =
    let zero : c.args.left ≡ 0 = omega arith in
    let legal = c.registers_ok.ensures.0 c.if-not-registers_ok.false in
    let w = c.end_padded.ensures.ends in
    record {
      bad_length = (λ e. never_bad c.end_padded.result w.only_fault e, λ bad. absurd (bad (legal, zero)));
      refused = record { kept = λ e. never_bad c.end_padded.result w.only_fault e; cleared = w.cleared };
      block_kept = λ e. never_bad c.end_padded.result w.only_fault e;
      answer = λ _ E D text inv state. w.answer E D text inv
          (unended_padded c.take_value-found.result c.take_value-found.ensures.value (rw zero at state));
      key = c.end_padded.ensures.key;
      block_cleared = λ _. c.take_value-found.ensures.cleared;
    }
