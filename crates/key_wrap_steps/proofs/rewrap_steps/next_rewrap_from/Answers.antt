-- The copy is the text, so that what holds of the text holds of the buffer after it is copied.
use Rattle.std.proofs.Common.{◌≡◌, ◌∙◌, ℕ, List, length}
use Rattle.key_wrap_core.specs.BlockCalls.{block_calls}
use Rattle.key_wrap_steps.proofs.RewrapPhaseEnds.{led, calls_over}
use Rattle.key_wrap_steps.proofs.rewrap_steps.next_rewrap_from.Goals as goal

pub returns-in-WrapOld-end_unwrap_old-clause-ends_phase : goal.returns-in-WrapOld-end_unwrap_old-clause-ends_phase
returns-in-WrapOld-end_unwrap_old-clause-ends_phase c = λ E D F G inv inv' state.
    let legal = c.has_ended.ensures.0 c.if-not-has_ended.false in
    let none : c.args.steps.now ≡ 0 = rw c.in-UnwrapOld.is at legal.1 in
    let ended = (rw c.in-WrapOld-end_unwrap_old.is at c.end_unwrap_old.ensures.ends_phase) c.args.request.now.pass_new c.args.copy.now E D F G inv inv'
    (rw (c.in-UnwrapOld.is, none) at state) in
    let same : c.copy_from_slice.new.self ≡ c.args.copy.now = c.copy_from_slice.ensures.after in
    rw same ((rw same at c.after_old.ensures.goes) E D F G inv inv' ended.0)

pub returns-in-UnwrapNew-clause-ends_phase : goal.returns-in-UnwrapNew-clause-ends_phase
returns-in-UnwrapNew-clause-ends_phase c = λ E D F G inv inv' state.
    let legal = c.has_ended.ensures.0 c.if-not-has_ended.false in
    let none : c.args.steps.now ≡ 0 = rw c.in-UnwrapNew.is at legal.1 in
    let same : c.copy_from_slice-in-UnwrapNew.new.self ≡ c.args.copy.now = c.copy_from_slice-in-UnwrapNew.ensures.after in
    rw same (c.end_unwrap_new-outcome.ensures.ends c.args.request.now.pass_new c.args.copy.now 0 c.args.block.now E D F G inv inv'
    (rw (c.in-UnwrapNew.is, none) at state))

pub returns-in-WrapOld-clause-ends_phase : goal.returns-in-WrapOld-clause-ends_phase
returns-in-WrapOld-clause-ends_phase c = λ E D F G inv inv' state.
    let now : List ℕ = c.args.text.now in
    let legal = c.has_ended.ensures.0 c.if-not-has_ended.false in
    let h = rw c.in-WrapOld.is at state in
    let all : c.args.steps.now ≡ block_calls (length now) = rw c.in-WrapOld.is at legal.1 in
    let whole : c.put_first.new.text ≡ c.args.copy.now = c.put_first.ensures ∙ led h.1 (calls_over c.args.steps.now now legal.0.1 all) in
    rw whole ((rw whole at c.after_old-in-WrapOld.ensures.goes) E D F G inv inv' h.0)

pub returns-in-WrapNew-clause-ends_phase : goal.returns-in-WrapNew-clause-ends_phase
returns-in-WrapNew-clause-ends_phase c = λ E D F G inv inv' state.
    let now : List ℕ = c.args.text.now in
    let legal = c.has_ended.ensures.0 c.if-not-has_ended.false in
    let h = rw c.in-WrapNew.is at state in
    let all : c.args.steps.now ≡ block_calls (length now) = rw c.in-WrapNew.is at legal.1 in
    rw c.put_first-in-WrapNew.ensures (led h (calls_over c.args.steps.now now legal.0.1 all))
