-- What one more part leaves, after those before it.
use Rattle.key_lines.proofs.Takings.{ReadsLine-failed, ReadsLine-ended, ReadsLine-last, ReadsLine-none, TakesPart-more}
use Rattle.key_lines.proofs.Common.{◌≡◌, ◌≢◌, ◌+◌, length, arith, ap, ◌∙◌, length-append, nat_tests}
use Rattle.key_lines.proofs.line.read_line.Goals as goal

pub returns-in_err-move_part-clause-line : goal.returns-in_err-move_part-clause-line
returns-in_err-move_part-clause-line g c =
    let kept = c.loop-line.invariant in
    let answer = c.from_residual in
    ReadsLine-failed _ _ answer.result c.in_err-move_part.field-0.0 answer.ensures.1 kept.0 (omega arith) c.in_err-move_part.ensures.part

pub returns-in-Ended-clause-line : goal.returns-in-Ended-clause-line
returns-in-Ended-clause-line g c = ReadsLine-ended c.loop-line.invariant.0 (rw c.in-Ended.is at c.in_ok-move_part.ensures.part)

pub returns-in-Missing-2-clause-line : goal.returns-in-Missing-2-clause-line
returns-in-Missing-2-clause-line g c =
    let kept = c.loop-line.invariant in
    let some : length c.move_part.new.line.items ≢ 0 = grind (arith, nat_tests, c.is_empty.ensures, c.if-is_empty.false) in
    ReadsLine-last _ _ some kept.0 (omega arith) (rw c.in-Missing-2.is at c.in_ok-move_part.ensures.part)

pub returns-in-Missing-clause-line : goal.returns-in-Missing-clause-line
returns-in-Missing-clause-line g c =
    let none : length c.move_part.new.line.items ≡ 0 = grind (arith, nat_tests, c.is_empty.ensures, c.if-is_empty.true) in
    ReadsLine-none c.args.limit (g.R.Read.remaining c.move_part.new.reader) _ none c.loop-line.invariant.0 (rw c.in-Missing.is at c.in_ok-move_part.ensures.part)

pub loop-line-preserved : goal.loop-line-preserved
loop-line-preserved g c =
    let moved = rw c.in-More.is at c.in_ok-move_part.ensures.part in
    (TakesPart-more moved.0 c.loop-line.invariant.0 moved.1 moved.2 moved.3, omega (arith, moved.4))

pub loop-line-smaller : goal.loop-line-smaller
loop-line-smaller g c =
    let moved = rw c.in-More.is at c.in_ok-move_part.ensures.part in
    let size : length c.move_part.new.line.items ≡ length c.loop-line.line.items + length moved.0 = ap length moved.3 ∙ length-append _ moved.0 in
    omega (arith, size, moved.4, moved.5)
