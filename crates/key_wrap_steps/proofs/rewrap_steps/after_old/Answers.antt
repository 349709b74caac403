-- A text whose length is not legal in the new form is not new.
use Rattle.std.proofs.Common.{rules, ◌≡◌, refl}
use Rattle.key_wrap_core.specs.declared.faults.Refusal.TheVariants.{KeyNotPlain}
use Rattle.key_wrap_core.proofs.Refusals.{true_or_false}
use Rattle.key_wrap_steps.proofs.RewrapPhaseEnds.{begun, not_new}
use Rattle.key_wrap_steps.proofs.rewrap_steps.after_old.Goals as goal

pub returns-then-not-rewrap_length_ok-clause-goes : goal.returns-then-not-rewrap_length_ok-clause-goes
returns-then-not-rewrap_length_ok-clause-goes c = λ E D F G inv inv' has.
    let legal = rw c.to_itself.ensures at c.rewrap_length_ok.ensures in (
      (has, λ pass. not_new c.args.request.now.forms E c.args.text.now inv' (λ fits. true_or_false c.if-not-rewrap_length_ok.true (legal.1 fits))),
      refl,
    )

pub returns-clause-goes : goal.returns-clause-goes
returns-clause-goes c = λ E D F G inv inv' has.
    let other : ¬ (c.args.fault ≡ KeyNotPlain) = search rules in
    let legal = rw c.to_itself.ensures at c.rewrap_length_ok.ensures in
    (has, other, c.if-not-request.false, legal.0 c.if-not-rewrap_length_ok.false, begun c.args.text.now c.begin_text.ensures.begun)
