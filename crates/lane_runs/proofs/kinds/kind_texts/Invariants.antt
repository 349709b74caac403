-- What is found of the texts of the batches before this one.
use Rattle.std.proofs.Common.{◌*◌, ◌<◌, ℕ, length, min, get_or}
use Rattle.key_wrap_lanes.specs.Lanes.{part_at}
use Rattle.lane_runs.specs.Kinds.{FindsText}
use Rattle.lane_runs.proofs.kinds.kind_texts.Given as goal

abbrev pub invariant-loop-batch : goal.invariant-loop-batch
invariant-loop-batch g l = (j : ℕ) → j < min (48 * l.batch) (length l.fn.statuses)
    → FindsText (g.B.BlockPair.encrypted l.pair) (part_at l.text_len j l.texts) (get_or l.forms j 0) (get_or l.key_lens j 0) (get_or l.statuses j 0)
