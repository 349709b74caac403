-- The unwrappings before this one are ended, and the other texts are as they were.
use Rattle.std.proofs.Common.{get_or}
use Rattle.key_wrap_lanes.specs.Lanes.{block_at}
use Rattle.lane_runs.specs.Kinds.{EndsKind}
use Rattle.lane_runs.proofs.Batches.{PartsDone}
use Rattle.lane_runs.proofs.kinds.end_kinds.Given as goal

abbrev pub invariant-loop-lane : goal.invariant-loop-lane
invariant-loop-lane l = PartsDone (λ j old new. EndsKind old (block_at j l.blocks) (get_or l.forms j 0) (get_or l.key_lens j 0) (get_or l.statuses j 0))
    l.text_len l.lane l.fn.texts l.texts
