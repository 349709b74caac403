-- The texts of the batches before this one are unwrapped, and the others are as they were.
use Rattle.std.proofs.Common.{◌*◌, length, min, get_or}
use Rattle.lane_runs.specs.Texts.{UnwrapsText}
use Rattle.lane_runs.proofs.Batches.{PartsDone}
use Rattle.lane_runs.proofs.unwraps.unwrap_texts.Given as goal

abbrev pub invariant-loop-batch : goal.invariant-loop-batch
invariant-loop-batch g l = PartsDone (λ j text buffer. UnwrapsText l.form (g.B.BlockPair.encrypted l.pair) text buffer (get_or l.key_lens j 0) (get_or l.statuses j 0))
    l.text_len (min (48 * l.batch) (length l.fn.statuses)) l.fn.texts l.texts
