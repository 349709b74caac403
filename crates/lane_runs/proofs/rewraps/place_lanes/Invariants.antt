-- The unwrappings of the lanes before this one are ended.
use Rattle.lane_runs.proofs.Placing.{LanesPlaced}
use Rattle.lane_runs.proofs.rewraps.place_lanes.Given as goal

abbrev pub invariant-loop-lane : goal.invariant-loop-lane
invariant-loop-lane l = LanesPlaced l.forms l.text_len l.lane l.wrapped l.fn.lanes l.fn.blocks l.lanes l.blocks l.places l.statuses
