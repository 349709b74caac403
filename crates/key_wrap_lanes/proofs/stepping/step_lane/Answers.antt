-- The registers follow the first word.
use Rattle.std.proofs.Common.{◌≡◌, ◌-◌, ℕ, List, length, take, drop, arith, length-drop}
use Rattle.std.proofs.lemmas.Slice.{take-put_mid_below}
use Rattle.std.proofs.lemmas.List.{take_all}
use Rattle.key_wrap_core.proofs.InPlaceForm.{registers_now}
use Rattle.key_wrap_lanes.proofs.stepping.step_lane.Goals as goal

pub returns : goal.returns
returns c =
    let text : List ℕ = c.args.text.now in
    let legal = c.requires.legal in
    let lent : take (length text - 8) (drop 8 text) ≡ drop 8 text = take_all (length text - 8) (drop 8 text) (omega (arith, length-drop 8 text)) in
    let now = registers_now text c.step_lane_registers.new.registers (omega arith) (omega (arith, length-drop 8 text)) in
    record {
      word = c.step_lane_registers.ensures.word;
      first = take-put_mid_below 8 (length text - 8) text c.step_lane_registers.new.registers 8 (omega arith) (omega arith);
      register = rw (now, ← lent) c.step_lane_registers.ensures.register;
      next_block = rw now c.step_lane_registers.ensures.next_block;
    }
