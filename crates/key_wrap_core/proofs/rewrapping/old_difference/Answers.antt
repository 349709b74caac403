-- The initial value tells for the plain form, the three checks for the padded one.
use Rattle.std.proofs.Common.{inl, inr, refl}
use Rattle.key_wrap_core.specs.declared.forms.Form.TheVariants as forms
use Rattle.key_wrap_core.specs.declared.agreed_form.AgreedForm.TheVariants.{Plain, Padded}
use Rattle.key_wrap_core.specs.Plain.{default_iv}
use Rattle.key_wrap_core.proofs.FoundForms.{no_form, padded_holds, padded_none_held}
use Rattle.key_wrap_core.proofs.rewrapping.old_difference.Goals as goal

pub returns-in-Kept : goal.returns-in-Kept
returns-in-Kept c =
    let p = c.plain_difference-plain.ensures in
    let w = c.padded_difference.ensures in
    rw c.in-Kept.is (record {
      passes = λ zero. elim (c.either.ensures.0 zero) [
        | inl zero ↦ (Plain default_iv, (forms.Plain, refl), c.args.registers.now, p.passes zero)
        | inr zero ↦ let held = padded_holds _ _ (w.passes zero) in (Padded, (forms.Padded, refl), held.0, held.1)
      ];
      refuses = λ some form own. rw own.1 (no_form default_iv _ (p.refuses (λ zero. some (c.either.ensures.1 (inl zero))))
          (padded_none_held _ (w.refuses (λ zero. some (c.either.ensures.1 (inr zero))))) own.0);
    })
