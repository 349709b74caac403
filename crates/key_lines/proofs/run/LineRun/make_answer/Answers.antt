-- The bytes that the line denotes, and the job's answer to them.
use Rattle.std.proofs.Common.{◌∙◌}
use Rattle.key_lines.proofs.Denoting.{MakesAnswer-input, MakesAnswer-job, line_meaning-within}
use Rattle.key_lines.proofs.run.LineRun.make_answer.Goals as goal

pub returns-in-Err : goal.returns-in-Err
returns-in-Err g c = rw c.line_fault.ensures (MakesAnswer-input c.args.self.now.options.notation (g.J.LineJob.answers c.args.self.now.job) c.args.line.now
    c.decode_line.new.bytes.items c.in-Err.fault c.requires c.in-Err.ensures)

pub returns : goal.returns
returns g c = MakesAnswer-job c.args.self.now.options.notation (g.J.LineJob.answers c.args.self.now.job)
    (g.J.LineJob.may_lack_memory c.args.self.now.job c.decode_line.new.bytes.items) c.args.line.now c.decode_line.new.bytes.items _ _
    (line_meaning-within c.args.self.now.options.notation c.args.line.now c.requires ∙ c.in_default.ensures) c.answer.ensures
