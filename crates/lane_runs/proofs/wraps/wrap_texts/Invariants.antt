-- The texts of the batches before this one are wrapped, and the others are as they were.
use Rattle.std.proofs.Common.{◌*◌, min}
use Rattle.key_wrap_core.specs.Forms.{IsDefaultWrapping}
use Rattle.key_wrap_core.specs.InPlace.{key_in}
use Rattle.lane_runs.proofs.Batches.{PartsDone}
use Rattle.lane_runs.proofs.wraps.wrap_texts.Given as goal

abbrev pub invariant-loop-batch : goal.invariant-loop-batch
invariant-loop-batch g l = PartsDone (λ j text text'. IsDefaultWrapping l.form (g.B.BlockPair.encrypted l.pair) (key_in l.key_len text) text')
    l.text_len (min (48 * l.batch) l.count) l.fn.texts l.texts
