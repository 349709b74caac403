-- All the steps of each lane are done, and the first half of its block is written before its registers.
use Rattle.std.proofs.Common.{rules, ◌≡◌}
use Rattle.key_wrap_core.specs.BlockCalls.{block_calls}
use Rattle.key_wrap_steps.proofs.Runs.{ended_plain, ended_padded}
use Rattle.key_wrap_core.proofs.Refusals.{ok_or_err}
use Rattle.key_wrap_lanes.proofs.LaneSteps.{all_steps}
use Rattle.key_wrap_lanes.proofs.wrap_many.end_wrap_many.Goals as goal

pub returns : goal.returns
returns c =
    let lanes = c.lanes_ok.ensures.0 c.if-not-lanes_ok.false in
    let all : c.args.done ≡ block_calls c.args.text_len = search rules in
    record {
      refused = record { bad_length = (λ e. ok_or_err e, λ bad. absurd (bad (lanes, all))); only_fault = tt; kept = λ e. ok_or_err e };
      plain = λ i below E iv key legal state.
          rw (c.write_firsts.ensures i below) (ended_plain (all_steps c.args.texts.now c.args.blocks.now lanes below all) legal state);
      padded = λ i below E key legal state.
          rw (c.write_firsts.ensures i below) (ended_padded (all_steps c.args.texts.now c.args.blocks.now lanes below all) legal state);
    }
