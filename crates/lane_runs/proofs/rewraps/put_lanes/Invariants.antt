-- The texts before this one are put, and the others are as they were.
use Rattle.std.proofs.Common.{get_or}
use Rattle.lane_runs.specs.Rewraps.{PutsLane}
use Rattle.lane_runs.proofs.Batches.{PartsDone}
use Rattle.lane_runs.proofs.rewraps.put_lanes.Given as goal

abbrev pub invariant-loop-lane : goal.invariant-loop-lane
invariant-loop-lane l = PartsDone (λ j text text'. PutsLane l.text_len l.lanes l.blocks (get_or l.places j 0) l.wrapped text text')
    l.text_len l.lane l.fn.texts l.texts
