-- A refused text is unchanged, so the new pair unwraps it.
use Rattle.std.proofs.Common.{rules, ◌≡◌, ◌∙◌, ℕ, List, refl}
use Rattle.key_wrap_core.specs.declared.faults.Refusal.TheVariants.{KeyNotPlain}
use Rattle.key_wrap_core.specs.Rewrap.{to_itself}
use Rattle.key_wrap_core.proofs.PaddedForm.{padded_registers_forward}
use Rattle.key_wrap_core.proofs.Rewraps.{old_of, no_old}
use Rattle.key_wrap_core.proofs.Results.{results_of}
use Rattle.key_wrap_core.proofs.rewrapping.rewrap.Goals as goal

pub returns-in-Ok-find-clause-rewraps : goal.returns-in-Ok-find-clause-rewraps
returns-in-Ok-find-clause-rewraps g c =
    let text : List ℕ = c.args.buf.now in
    let refused = c.in-Err.ensures.rewraps in
    let other : ¬ (c.in-Err.fault ≡ KeyNotPlain) = search rules in
    let w = rw (c.to_itself.ensures, refused.1, c.in-Err.ensures.calls.new_unasked refl refl) at c.in-Ok-find.ensures in (
      c.if-not-pass_new.false,
      record {
        no_old = no_old c.args.forms.now text c.in-Err.fault (g.met.O.BlockPair.lawful c.args.old.now.pair) refused.0.0 other;
        new = (w.found.0, w.found.2, old_of (to_itself c.args.forms.now) text _ (g.met.N.BlockPair.lawful c.args.new.now.pair) w.found);
      },
      padded_registers_forward (rw (w.calls refl) at c.wrap_buffer.ensures.wrapped) w.found.4,
    )

pub returns-in-Err-find-clause-rewraps : goal.returns-in-Err-find-clause-rewraps
returns-in-Err-find-clause-rewraps g c =
    let refused = c.in-Err.ensures.rewraps in
    let w = rw (c.to_itself.ensures, refused.1, c.in-Err.ensures.calls.new_unasked refl refl) at c.in-Err-find.ensures.refused in
    let none = no_old (to_itself c.args.forms.now) c.args.buf.now c.in-Err-find.field-0 (g.met.N.BlockPair.lawful c.args.new.now.pair) w.0 w.1 in
    ((refused.0.0, λ pass is. none is.new.0 is.new.2.from is.new.1 is.new.2.wrapping), c.in-Err-find.ensures.kept refl ∙ refused.1)

pub returns-in-Ok-clause-results : goal.returns-in-Ok-clause-results
returns-in-Ok-clause-results g c = results_of (g.met.O.BlockPair.lawful c.args.old.now.pair) c.in-Ok.ensures.rewraps

pub returns-then-not-pass_new-clause-results : goal.returns-then-not-pass_new-clause-results
returns-then-not-pass_new-clause-results g c = results_of (g.met.O.BlockPair.lawful c.args.old.now.pair) (search rules)

pub returns-in-Ok-find-clause-results : goal.returns-in-Ok-find-clause-results
returns-in-Ok-find-clause-results g c = results_of (g.met.O.BlockPair.lawful c.args.old.now.pair) (returns-in-Ok-find-clause-rewraps g c)

pub returns-in-Err-find-clause-results : goal.returns-in-Err-find-clause-results
returns-in-Err-find-clause-results g c = results_of (g.met.O.BlockPair.lawful c.args.old.now.pair) (returns-in-Err-find-clause-rewraps g c)
