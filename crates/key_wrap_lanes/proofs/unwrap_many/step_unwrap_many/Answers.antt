-- The number counts down before the lanes are written, and each lane has its step undone.
use Rattle.std.proofs.Common.{rules, ◌≡◌, ℕ, ◌+◌, ◌/◌, ◌%◌, ◌-◌, ◌<◌, ◌≤◌, arith, refl}
use Rattle.key_wrap_core.specs.BlockCalls.{block_calls}
use Rattle.key_wrap_core.proofs.Spelling.{each_byte}
use Rattle.key_wrap_core.proofs.Refusals.{ok_or_err}
use Rattle.key_wrap_lanes.proofs.LaneSteps.{lane_of, unwrap_stepped}
use Rattle.key_wrap_lanes.proofs.unwrap_many.step_unwrap_many.Goals as goal

pub returns : goal.returns
returns c =
    let n : ℕ = c.args.text_len / 8 - 1 in
    let lanes = c.lanes_ok.ensures.0 c.if-not-lanes_ok.false in
    let some : 1 ≤ c.args.left.now = search rules in
    let within : c.args.left.now ≤ block_calls c.args.text_len = search rules in
    let again : c.args.left.now - 1 + 1 ≡ c.args.left.now = omega arith in
    let own : (c.args.left.now - 1) % n < n = search rules in
    let number = c.lane_steps.ensures.number in
    record {
      refused = record { bad_length = (λ e. ok_or_err e, λ bad. absurd (bad (lanes, some, within))); only_fault = tt; kept = λ e. ok_or_err e };
      counts = omega arith;
      firsts = λ i below. let stepped_lane = c.step_lanes.ensures i below in stepped_lane.first;
      steps = λ i below E origin before state decrypted.
          let lane = lane_of c.args.texts.now c.args.blocks.now lanes (each_byte c.args.blocks.now (search rules)) below own (c.register_before-next.ensures.within own) in
          unwrap_stepped lane (omega arith) refl (c.register_before-next.ensures.number own) (c.step_lanes.ensures i below) (rw again state) decrypted;
    }
