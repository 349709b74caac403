-- Some lines were answered, and then the input ended, or a line or the writer stopped the run.
use Rattle.std.proofs.Common.{Ok, ap, arith, inl}
use Rattle.key_lines.proofs.Ends.{headline}
use Rattle.key_lines.proofs.Laws.{lines_are_files, prints_back}
use Rattle.key_lines.proofs.Runs.{Run-more, Run-none, RunsLines-done, RunsLines-ended, more_lines}
use Rattle.key_lines.proofs.run.LineRun.run.Goals as goal

pub loop-summary-init : goal.loop-summary-init
loop-summary-init g c =
    (Run-none c.args.self.now.options (g.J.LineJob.answers c.args.self.now.job) _ _ _ _ c.new-4.ensures.items, inl c.new-4.ensures.items)

pub loop-summary-preserved : goal.loop-summary-preserved
loop-summary-preserved g c =
    let done = rw c.in-Ok-Ended.field-0-is at c.in-Ok-Ended.ensures.steps in (
      Run-more c.args.self.now.options (g.J.LineJob.answers c.args.self.now.job) c.loop-summary.invariant.0 done.0,
      c.in-Ok-Ended.ensures.sent (ap Ok c.in-Ok-Ended.field-0-is),
    )

pub loop-summary-smaller : goal.loop-summary-smaller
loop-summary-smaller g c =
    let done = rw c.in-Ok-Ended.field-0-is at c.in-Ok-Ended.ensures.steps in
    omega (arith, more_lines c.args.self.now.options (g.J.LineJob.answers c.args.self.now.job) done.0, done.0.steps.room.lines)

pub returns-in-Ok-Last : goal.returns-in-Ok-Last
returns-in-Ok-Last g c =
    let done = rw c.in-Ok-Last.field-0-is at c.in-Ok-Last.ensures.steps in
    let run = RunsLines-done c.args.self.now.options (g.J.LineJob.answers c.args.self.now.job) c.loop-summary.invariant.0 done.0 done.0.ends
    (done.1 (λ e. cc e)) in
    record { run = run; headline = headline c.args.self.now.options _ _ _ _ _ _ _ _ run; as_files = lines_are_files _; read_back = prints_back _; read = λ sure refused is e. cc e; too_many = λ refused e. cc e }

pub returns-in-Ok-Missing : goal.returns-in-Ok-Missing
returns-in-Ok-Missing g c =
    let done = rw c.in-Ok-Missing.field-0-is at c.in-Ok-Missing.ensures.steps in
    let run = RunsLines-done c.args.self.now.options (g.J.LineJob.answers c.args.self.now.job) c.loop-summary.invariant.0 done.0 done.0.ends
    (done.1 (λ e. cc e)) in
    record { run = run; headline = headline c.args.self.now.options _ _ _ _ _ _ _ _ run; as_files = lines_are_files _; read_back = prints_back _; read = λ sure refused is e. cc e; too_many = λ refused e. cc e }

pub returns-in-Err : goal.returns-in-Err
returns-in-Err g c =
    let run = RunsLines-ended c.args.self.now.options (g.J.LineJob.answers c.args.self.now.job) _ _ c.in-Err.fault c.loop-summary.invariant.0 c.in-Err.ensures.steps in
    record { run = run; headline = headline c.args.self.now.options _ _ _ _ _ _ _ _ run; as_files = lines_are_files _; read_back = prints_back _; read = λ sure refused is e. c.in-Err.ensures.read sure refused is (cc e); too_many = λ refused e is. c.in-Err.ensures.too_many refused (cc e) is }
