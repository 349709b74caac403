-- No line was answered, or the next one was.
use Rattle.std.proofs.Common.{◌≡◌, ◌++◌, Err, ap, inl, refl, rules, sym, ◌∙◌}
use Rattle.key_lines.proofs.Runs.{FindsLine-line, FindsLine-none, line_fault-counted, line_fault-read, never_unread, stops_refused, stops_unread}
use Rattle.key_lines.proofs.run.LineRun.next.Goals as goal

pub returns-then-summary-clause-finds : goal.returns-then-summary-clause-finds
returns-then-summary-clause-finds g c = λ out. FindsLine-none c.args.self.now.options _ out _ _ _ _ refl c.requires.room
    refl

pub returns-in-Err-clause-finds : goal.returns-in-Err-clause-finds
returns-in-Err-clause-finds g c = λ out. rw c.line_fault.ensures (FindsLine-none c.args.self.now.options _ out _ _ _ _ refl c.requires.room
    (stops_unread c.args.self.now.options (g.J.LineJob.answers c.args.self.now.job) _ _ _ c.in-Err.fault c.in-Err.ensures.line))

pub returns-in-Err-clause-read : goal.returns-in-Err-clause-read
returns-in-Err-clause-read g c = λ sure e. c.in-Err.ensures.read sure (ap Err (line_fault-read c.in-Err.fault (sym c.line_fault.ensures ∙ cc e)))

pub returns-in-Err-clause-too_many : goal.returns-in-Err-clause-too_many
returns-in-Err-clause-too_many g c = λ e. absurd (line_fault-counted c.in-Err.fault (sym c.line_fault.ensures ∙ cc e))

pub returns-in-Missing-clause-finds : goal.returns-in-Missing-clause-finds
returns-in-Missing-clause-finds g c = λ out.
    let end = rw c.in-Missing.is at c.in-Ok.ensures.line in
    FindsLine-none c.args.self.now.options _ out _ _ _ _ refl c.requires.room (end.1, end.0)

pub returns-in-Err-make-clause-finds : goal.returns-in-Err-make-clause-finds
returns-in-Err-make-clause-finds g c = λ out. FindsLine-none c.args.self.now.options _ out _ _ _ _ refl c.requires.room
    (stops_refused c.args.self.now.options (g.J.LineJob.answers c.args.self.now.job) _ _ _ _ c.in-Ok.met c.in-Err-make.fault c.in_default.not-Missing
    c.in-Ok.ensures.line c.deref.ensures.value c.in-Err-make.ensures)

pub returns-then-is_err-clause-finds : goal.returns-then-is_err-clause-finds
returns-then-is_err-clause-finds g c = λ out.
    let same : c.extend_from_slice.new.self.items ≡ c.args.buffers.now.block.items = search rules in
    FindsLine-none c.args.self.now.options _ out _ _ _ _ same c.requires.room
    (stops_refused c.args.self.now.options (g.J.LineJob.answers c.args.self.now.job) _ _ _ _ c.in-Ok.met _ c.in_default.not-Missing
    c.in-Ok.ensures.line refl (inl refl))

pub returns-clause-finds : goal.returns-clause-finds
returns-clause-finds g c = λ out.
    let made = rw c.deref.ensures.value at c.in-Ok-make.ensures in
    let put : c.extend_from_slice.new.self.items ≡ c.args.buffers.now.block.items ++ c.make.new.output.items = search rules in
    FindsLine-line c.args.self.now.options (g.J.LineJob.answers c.args.self.now.job) _ _ out _ _ c.args.buffers.now.block.items _
    c.read_line.new.line.items c.args.summary.now _ c.make.new.output.items c.in-Ok-make.made c.in-Ok.met c.in_default.not-Missing c.in-Ok.ensures.line made.0
    made.1 put c.add_line.ensures.counts c.add_line.ensures.room c.add_line.ensures.logs

pub returns-in-Err-make-clause-read : goal.returns-in-Err-make-clause-read
returns-in-Err-make-clause-read g c = λ sure e. (never_unread c.args.self.now.options (g.J.LineJob.answers c.args.self.now.job) c.deref.result.now
    c.make.new.output.items c.in-Err-make.fault c.in-Err-make.ensures).0 (cc e)

pub returns-in-Err-make-clause-too_many : goal.returns-in-Err-make-clause-too_many
returns-in-Err-make-clause-too_many g c = λ e. absurd ((never_unread c.args.self.now.options (g.J.LineJob.answers c.args.self.now.job) c.deref.result.now
    c.make.new.output.items c.in-Err-make.fault c.in-Err-make.ensures).1 (cc e))
