-- The kind of a text, from the key that belongs to it in either form.
use Rattle.std.proofs.Common.{rules, ◌≡◌, ℕ, List, length, refl, sym, ap, ◌∙◌}
use Rattle.block_pair.specs.Pair.{AreInverse}
use Rattle.key_wrap_core.specs.declared.forms.Form.{Form}
use Rattle.key_wrap_core.specs.declared.forms.Form.TheVariants as forms
use Rattle.key_wrap_core.specs.declared.forms.Kind.TheVariants.{Plain as InPlain, Padded as InPadded, Neither}
use Rattle.key_wrap_core.specs.declared.agreed_form.AgreedForm.TheVariants.{Plain, Padded}
use Rattle.key_wrap_core.specs.Lengths.{IsPaddedTextLength}
use Rattle.key_wrap_core.specs.Forms.{NoOtherForm, with_value}
use Rattle.key_wrap_core.specs.EitherForm.{IsEither, IsOnlyWrapping, NoKeyIn}
use Rattle.key_wrap_core.specs.Kind.{IsTheKind, kind_as}
use Rattle.key_wrap_core.proofs.EitherForms.{either_legal}

-- the text has this key in this form
pub kind_found : {E : List ℕ → List ℕ} (iv : ℕ) (form : Form) (len : ℕ) (key text : List ℕ)
    → IsOnlyWrapping (IsEither iv) E (with_value form iv) key text → length key ≡ len → NoOtherForm (with_value form iv) E text
    → IsTheKind iv E text (kind_as form len)
kind_found iv forms.Plain len key text w size none = record {
  is = (key, size, w.wrapping);
  plain = λ other h. ap InPlain (sym size ∙ ap length (sym (w.only (Plain iv) other (forms.Plain, refl) h).1));
  padded = λ other h. absurd (none other h);
  neither = λ h k. absurd (h key w.wrapping);
  other_form = none;
}
kind_found iv forms.Padded len key text w size none = record {
  is = (key, size, w.wrapping);
  plain = λ other h. let no : Plain iv ≡ Padded = (w.only (Plain iv) other (forms.Plain, refl) h).0 in cc;
  padded = λ other h. ap InPadded (sym size ∙ ap length (sym (w.only Padded other (forms.Padded, refl) h).1));
  neither = λ h k. absurd (k key w.wrapping);
  other_form = none;
}

-- it has none
pub kind_none : {E : List ℕ → List ℕ} (iv : ℕ) (text : List ℕ) → NoKeyIn (IsEither iv) E text → IsTheKind iv E text Neither
kind_none iv text none =
    let plain = none (Plain iv) (forms.Plain, refl) in
    let padded = none Padded (forms.Padded, refl) in
    record {
      is = (plain, padded);
      plain = λ key h. absurd (plain key h);
      padded = λ key h. absurd (padded key h);
      neither = search rules;
      other_form = padded;
    }

-- and no text of another length has one
pub kind_illegal : {E D : List ℕ → List ℕ} (iv : ℕ) (text : List ℕ) → AreInverse E D → ¬ IsPaddedTextLength (length text) → IsTheKind iv E text Neither
kind_illegal iv text inv illegal = kind_none iv text (λ form own key h. illegal (either_legal iv own.0 key text inv (rw own.1 at h)))
