-- The texts of the batches before this one are rewrapped, and the others are as they were.
use Rattle.std.proofs.Common.{◌*◌, length, min, get_or}
use Rattle.lane_runs.specs.Rewraps.{RewrapsText}
use Rattle.lane_runs.proofs.Batches.{PartsDone}
use Rattle.lane_runs.proofs.rewraps.rewrap_texts.Given as goal

abbrev pub invariant-loop-batch : goal.invariant-loop-batch
invariant-loop-batch g l = PartsDone (λ j text buffer. RewrapsText l.request.pass_new l.request.forms (g.O.BlockPair.encrypted l.old) (g.N.BlockPair.encrypted l.new)
    text buffer (get_or l.statuses j 0)) l.text_len (min (48 * l.batch) (length l.fn.statuses)) l.fn.texts l.texts
