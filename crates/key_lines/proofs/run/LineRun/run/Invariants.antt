-- Some lines were answered, and the run may read on.
use Rattle.std.proofs.Common.{◌-◌}
use Rattle.key_lines.proofs.Common.{MayReadOn}
use Rattle.key_lines.proofs.Runs.{Run}
use Rattle.key_lines.proofs.run.LineRun.run.Given as goal

abbrev pub invariant-loop-summary : goal.invariant-loop-summary
invariant-loop-summary g l =
    Run l.self.options (g.J.LineJob.answers l.self.job) (g.R.Read.remaining l.initial.input) (g.R.Read.remaining l.input)
    (g.W.Write.contents l.initial.out) (g.W.Write.contents l.out) (g.L.RefusalLog.received l.initial.log) (g.L.RefusalLog.received l.log)
    l.buffers.block.items l.summary × MayReadOn (g.R.LineSource.buffered l.input) l.buffers.block.items

abbrev pub decreases-loop-summary : goal.decreases-loop-summary
decreases-loop-summary g l = 18446744073709551615 - l.summary.lines
