-- The block was written after the next line, or the writer refused it.
use Rattle.std.proofs.Common.{◌≡◌, ◌<◌, ◌∙◌, length, Err, ap, arith, refl, rules, subst, sym}
use Rattle.key_lines.proofs.Blocks.{if_done, if_refused}
use Rattle.key_lines.proofs.Runs.{FindsLine-sent, same_fault, same_number}
use Rattle.key_lines.proofs.run.LineRun.step.Goals as goal

pub returns-then-is_err-clause-steps : goal.returns-then-is_err-clause-steps
returns-then-is_err-clause-steps g c =
    let size : length c.send.new.block.items ≡ c.len-then-is_err.result = sym (search rules) in
    let some : 0 < length c.send.new.block.items = if_refused c.send.result (sym c.is_err.ensures.value ∙ c.if-is_err.true) c.send.ensures.left in (
      c.next-found.result,
      FindsLine-sent c.args.self.now.options _ _ _ (c.next-found.ensures.finds (g.W.Write.contents c.args.out.now)) c.send.ensures.sends,
      refl,
      size,
      subst (λ n. 0 < n) size some,
    )

pub overflow_add-line : goal.overflow_add-line
overflow_add-line g c = omega (arith, (c.in-Err.ensures.finds (g.W.Write.contents c.args.out.now)).steps.room.lines)

pub returns-in-Ok-clause-steps : goal.returns-in-Ok-clause-steps
returns-in-Ok-clause-steps g c = (
  FindsLine-sent c.args.self.now.options _ _ _ (c.in-Ok.ensures.finds (g.W.Write.contents c.args.out.now)) c.send.ensures.sends,
  λ _. if_done c.send.result (sym c.is_err.ensures.value ∙ c.if-is_err.false) c.send.ensures.all,
)

pub returns-in-Err-clause-steps : goal.returns-in-Err-clause-steps
returns-in-Err-clause-steps g c = (
  FindsLine-sent c.args.self.now.options _ _ _ (c.in-Err.ensures.finds (g.W.Write.contents c.args.out.now)) c.send.ensures.sends,
  refl,
  if_done c.send.result (sym c.is_err.ensures.value ∙ c.if-is_err.false) c.send.ensures.all,
)

pub returns-in-Err-clause-read : goal.returns-in-Err-clause-read
returns-in-Err-clause-read g c = λ sure refused is e. c.in-Err.ensures.read sure (ap Err (same_fault _ refused e ∙ is))

pub returns-in-Err-clause-too_many : goal.returns-in-Err-clause-too_many
returns-in-Err-clause-too_many g c = λ refused e is.
    let lines = c.in-Err.ensures.too_many (ap Err (same_fault _ refused e ∙ is)) in
    let number = same_number _ refused e in
    omega (arith, lines, number)
