-- The job answered, and its answer was written, or a front of it.
use Rattle.keywrap_cli.proofs.Answered.{failed_write}
use Rattle.keywrap_cli.proofs.whole_input.write_answer.Goals as goal

pub returns-in-Err : goal.returns-in-Err
returns-in-Err g c =
    rw c.job_fault.ensures (failed_write (g.J.LineJob.answers c.args.job.now) (g.J.LineJob.may_lack_memory c.args.job.now) c.args.bytes.now.items
    c.answer.new.output.items (g.W.Write.contents c.args.out.now) c.in-Err.fault c.in-Err.ensures)

pub returns-in-Ok-write_raw : goal.returns-in-Ok-write_raw
returns-in-Ok-write_raw g c = (
  record { text = c.answer.new.output.items; note = c.in-Ok.note },
  c.in-Ok.ensures,
  c.done_of.ensures,
  rw c.deref.ensures.value at c.in-Ok-write_raw.ensures.whole,
)

pub returns : goal.returns
returns g c =
    let e = rw c.deref.ensures.value at c.in-Err-write_raw.ensures in
    (record { text = c.answer.new.output.items; note = c.in-Ok.note }, c.in-Ok.ensures, e.short, e.front)
