-- The steps led back to an initial value and registers.
use Rattle.std.proofs.Common.{◌≡◌, arith}
use Rattle.key_wrap_core.proofs.Refusals.{never_bad}
use Rattle.key_wrap_core.proofs.UnwrapStepping.{unended_padded}
use Rattle.key_wrap_steps.proofs.unwrap_steps.end_unwrap.Goals as goal

pub returns : goal.returns
returns c =
    let zero : c.args.left ≡ 0 = omega arith in
    let legal = c.key_length_ok.ensures.0 c.if-not-key_length_ok.false in
    let only = c.end_plain.ensures.only_fault in
    record {
      bad_length = (λ e. never_bad c.end_plain.result only e, λ bad. absurd (bad (legal, zero)));
      refused = record { kept = λ e. never_bad c.end_plain.result only e; cleared = c.end_plain.ensures.cleared };
      block_kept = λ e. never_bad c.end_plain.result only e;
      answer = λ _ E D text inv state.
          let run = unended_padded c.take_value-found.result c.take_value-found.ensures.value (rw zero at state) in
          rw c.word.ensures.value at (c.end_plain.ensures.answer E D text inv run);
      block_cleared = λ _. c.take_value-found.ensures.cleared;
    }
