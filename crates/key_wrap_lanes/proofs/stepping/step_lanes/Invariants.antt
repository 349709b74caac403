-- The step of the lanes before this one is made, and the others are as they were.
use Rattle.key_wrap_lanes.specs.LaneStep.{SteppedLane}
use Rattle.key_wrap_lanes.proofs.Parts.{PartsChanged}
use Rattle.key_wrap_lanes.proofs.stepping.step_lanes.Given as goal

abbrev pub invariant-loop-lane : goal.invariant-loop-lane
invariant-loop-lane l = PartsChanged (λ _. SteppedLane l.counter l.own l.next) l.text_len 16 l.lane l.fn.texts l.fn.blocks l.texts l.blocks
