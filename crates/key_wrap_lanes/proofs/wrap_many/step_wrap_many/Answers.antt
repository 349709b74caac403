-- Each lane has its step made.
use Rattle.std.proofs.Common.{rules, ℕ, ◌/◌, ◌%◌, ◌-◌, ◌<◌, arith, refl}
use Rattle.key_wrap_core.specs.BlockCalls.{block_calls}
use Rattle.key_wrap_core.proofs.Spelling.{each_byte}
use Rattle.key_wrap_core.proofs.Refusals.{ok_or_err}
use Rattle.key_wrap_lanes.proofs.LaneSteps.{lane_of, wrap_stepped}
use Rattle.key_wrap_lanes.proofs.wrap_many.step_wrap_many.Goals as goal

pub returns : goal.returns
returns c =
    let n : ℕ = c.args.text_len / 8 - 1 in
    let lanes = c.lanes_ok.ensures.0 c.if-not-lanes_ok.false in
    let left : c.args.done.now < block_calls c.args.text_len = search rules in
    let own : c.args.done.now % n < n = search rules in
    let number = c.lane_steps.ensures.number in
    record {
      refused = record { bad_length = (λ e. ok_or_err e, λ bad. absurd (bad (lanes, left))); only_fault = tt; kept = λ e. ok_or_err e };
      counts = refl;
      firsts = λ i below. let stepped_lane = c.step_lanes.ensures i below in stepped_lane.first;
      steps = λ i below E iv key before state encrypted.
          let lane = lane_of c.args.texts.now c.args.blocks.now lanes (each_byte c.args.blocks.now (search rules)) below own (c.register_after-next.ensures.within own) in
          wrap_stepped lane (omega arith) refl (c.register_after-next.ensures.number own) (c.step_lanes.ensures i below) state encrypted;
    }
