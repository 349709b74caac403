-- The key that was found, in whichever of the forms, is wrapped as it is in the registers.
use Rattle.std.proofs.Common.{rules, refl}
use Rattle.std.proofs.lemmas.Bool.{false≢true}
use Rattle.key_wrap_core.specs.Rewrap.{to_form, to_itself}
use Rattle.key_wrap_core.proofs.PaddedForm.{padded_registers_forward}
use Rattle.key_wrap_core.proofs.FoundForms.{found_wrapping, behind_first}
use Rattle.key_wrap_core.proofs.Rewraps.{old_of, wrapping_of, from_itself}
use Rattle.key_wrap_core.proofs.rewrapping.rewrap_old.Goals as goal

pub returns-in_default-clause-rewraps : goal.returns-in_default-clause-rewraps
returns-in_default-clause-rewraps g c =
    let w = c.in-Ok.ensures in
    let held = w.found in
    let fit = (rw (behind_first c.find.new.buf) at (c.fit-misfit.ensures held.0 held.1 held.2)) held.3 in
    let own = old_of c.args.forms.now c.args.buf.now _ (g.met.O.BlockPair.lawful c.args.old.now.pair) held in (
      ((held.0, held.2, own, λ legal. false≢true (c.in_default.ensures.passes.1 (fit.fits.1 legal))), λ no. absurd (false≢true no)),
      padded_registers_forward (rw (w.calls refl) at (c.in_default.ensures.restored refl)) held.4,
    )

pub returns-clause-rewraps : goal.returns-clause-rewraps
returns-clause-rewraps g c =
    let forms = c.args.forms.now in
    let held = c.in-Ok.ensures.found in
    let new_form = to_form forms held.0 in
    let kept = c.in-Ok-decide_or_restore.ensures.kept refl in
    let fit = (rw (behind_first c.find.new.buf) at (c.fit-misfit.ensures held.0 held.1 held.2)) held.3 in
    let after = fit.holds (fit.fits.0 (c.in-Ok-decide_or_restore.ensures.passes.0 refl)) in
    let wraps = found_wrapping new_form held.2 _ c.wrap_buffer.new.buf after (rw kept at c.wrap_buffer.ensures.wrapped) in (
      held.0,
      held.2,
      old_of forms c.args.buf.now _ (g.met.O.BlockPair.lawful c.args.old.now.pair) held,
      wrapping_of (to_itself forms) new_form held.2 c.wrap_buffer.new.buf (g.met.N.BlockPair.lawful c.args.new.now.pair) (from_itself forms held.0 held.1) wraps,
    )

pub returns-in_default-clause-calls : goal.returns-in_default-clause-calls
returns-in_default-clause-calls g c =
    let again = rw (c.in-Ok.ensures.calls refl) at (c.in_default.ensures.calls refl) in search rules
