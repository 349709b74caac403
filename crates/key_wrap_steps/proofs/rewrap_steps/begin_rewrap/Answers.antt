-- The text is unwrapped under the pair under which its length is legal.
use Rattle.std.proofs.Common.{refl}
use Rattle.key_wrap_core.proofs.Refusals.{true_or_false}
use Rattle.key_wrap_steps.proofs.RewrapPhaseEnds.{begun, not_new}
use Rattle.key_wrap_steps.proofs.rewrap_steps.begin_rewrap.Goals as goal
use Rattle.key_wrap_steps.proofs.rewrap_steps.begin_rewrap.Goals.{else-request-via-then-request+else-rewrap_length_ok-2, else-request-via-else-request}

pub returns-then-rewrap_length_ok-clause-begins : goal.returns-then-rewrap_length_ok-clause-begins
returns-then-rewrap_length_ok-clause-begins c = λ E F.
    (c.rewrap_length_ok.ensures.0 c.if-rewrap_length_ok.true, begun c.args.text.now c.begin_text.ensures.begun)

pub returns-then-rewrap_length_ok-2-clause-begins : goal.returns-then-rewrap_length_ok-2-clause-begins
returns-then-rewrap_length_ok-2-clause-begins c = λ E F.
    let legal = rw c.to_itself.ensures at c.rewrap_length_ok-then-request.ensures in (
      λ old. true_or_false c.if-rewrap_length_ok.false (c.rewrap_length_ok.ensures.1 old),
      λ e. cc,
      c.if-request.true,
      legal.0 c.if-rewrap_length_ok-2.true,
      begun c.args.text.now c.begin_text-then-rewrap_length_ok-2.ensures.begun,
    )

pub returns-clause-refuses : goal.returns-clause-refuses
returns-clause-refuses c = λ e E D F G inv inv'. (
  (
    λ old. true_or_false c.if-rewrap_length_ok.false (c.rewrap_length_ok.ensures.1 old),
    elim c.else-request.branch [
      | else-request-via-then-request+else-rewrap_length_ok-2 w ↦ λ pass.
          let legal = rw w.to_itself.ensures at w.rewrap_length_ok-then-request.ensures in
          not_new c.args.request.now.forms E c.args.text.now inv' (λ fits. true_or_false w.if-rewrap_length_ok-2.false (legal.1 fits))
      | else-request-via-else-request w ↦ λ pass. true_or_false w.if-request.false pass
    ],
  ),
  refl,
)
