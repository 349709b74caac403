-- All the steps are done, and A6n, or the first half of the one block, is written before the registers.
use Rattle.std.proofs.Common.{rules, ◌≡◌, ◌+◌, length}
use Rattle.key_wrap_core.specs.BlockCalls.{block_calls}
use Rattle.key_wrap_core.proofs.Refusals.{ok_or_err}
use Rattle.key_wrap_steps.proofs.Runs.{ended_plain, ended_padded}
use Rattle.key_wrap_steps.proofs.wrap_steps.end_wrap.Goals as goal

pub returns : goal.returns
returns c =
    let legal = c.registers_ok.ensures.0 c.if-not-registers_ok.false in
    let all : c.args.done ≡ block_calls (8 + length c.args.registers.now) = search rules in
    record {
      refused = record { bad_length = (λ e. ok_or_err e, λ bad. absurd (bad (legal, all))); only_fault = tt; kept = λ e. ok_or_err e };
      ends = record {
        plain = λ E iv key legal state. rw c.copy_from_slice.ensures.after (ended_plain all legal state);
        padded = λ E key legal state. rw c.copy_from_slice.ensures.after (ended_padded all legal state);
      };
    }
