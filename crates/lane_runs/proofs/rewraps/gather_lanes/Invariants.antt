-- The texts before this one are gathered.
use Rattle.lane_runs.proofs.Gathering.{TextsGathered}
use Rattle.lane_runs.proofs.rewraps.gather_lanes.Given as goal

abbrev pub invariant-loop-from : goal.invariant-loop-from
invariant-loop-from l = TextsGathered l.text_len l.from l.tried l.texts l.lanes l.fn.places l.places l.statuses
