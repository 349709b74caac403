-- The lanes before this one are ended, and the others are as they were.
use Rattle.key_wrap_lanes.specs.Lanes.{block_at}
use Rattle.key_wrap_lanes.proofs.Parts.{PartsChanged}
use Rattle.key_wrap_lanes.proofs.LaneSteps.{EndedLane}
use Rattle.key_wrap_lanes.proofs.unwrap_many.end_lanes.Given as goal

abbrev pub invariant-loop-lane : goal.invariant-loop-lane
invariant-loop-lane l = PartsChanged (λ j. EndedLane l.iv (block_at j l.blocks)) l.text_len 1 l.lane l.fn.texts l.fn.statuses l.texts l.statuses
