-- The wrapped text is put together, and the state that follows holds.
use Rattle.std.proofs.Common.{◌≡◌, ◌∙◌, ℕ, List, length}
use Rattle.key_wrap_core.specs.BlockCalls.{block_calls}
use Rattle.key_wrap_steps.proofs.RewrapPhaseEnds.{led, calls_over}
use Rattle.key_wrap_steps.proofs.rewrap_steps.next_rewrap.Goals as goal

pub returns-in-WrapOld-clause-ends_phase : goal.returns-in-WrapOld-clause-ends_phase
returns-in-WrapOld-clause-ends_phase c = λ text E D F G inv inv' state.
    let now : List ℕ = c.args.text.now in
    let legal = c.has_ended.ensures.0 c.if-not-has_ended.false in
    let h = rw c.in-WrapOld.is at state in
    let all : c.args.steps.now ≡ block_calls (length now) = rw c.in-WrapOld.is at legal.1 in
    let whole : c.put_first.new.text ≡ text = c.put_first.ensures ∙ led h.1 (calls_over c.args.steps.now now legal.0.1 all) in
    rw whole ((rw whole at c.after_old.ensures.goes) E D F G inv inv' h.0)

pub returns-in-WrapNew-clause-ends_phase : goal.returns-in-WrapNew-clause-ends_phase
returns-in-WrapNew-clause-ends_phase c = λ text E D F G inv inv' state.
    let now : List ℕ = c.args.text.now in
    let legal = c.has_ended.ensures.0 c.if-not-has_ended.false in
    let h = rw c.in-WrapNew.is at state in
    let all : c.args.steps.now ≡ block_calls (length now) = rw c.in-WrapNew.is at legal.1 in
    rw c.put_first-in-WrapNew.ensures (led h (calls_over c.args.steps.now now legal.0.1 all))

pub returns-in-UnwrapNew-clause-ends_phase : goal.returns-in-UnwrapNew-clause-ends_phase
returns-in-UnwrapNew-clause-ends_phase c = λ text E D F G inv inv' state.
    let legal = c.has_ended.ensures.0 c.if-not-has_ended.false in
    let none : c.args.steps.now ≡ 0 = rw c.in-UnwrapNew.is at legal.1 in
    rw none (c.end_unwrap_new-outcome.ensures.ends_phase c.args.request.now.pass_new text E D F G inv inv' (rw (c.in-UnwrapNew.is, none) at state))
