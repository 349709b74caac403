-- A wrapped key among some forms, of which either form with its initial value is the usual case.
use Rattle.std.specs.Prelude.{◌≡◌, ℕ, List}
use Rattle.key_wrap_core.specs.declared.forms.Form.{Form}
use Rattle.key_wrap_core.specs.declared.agreed_form.AgreedForm.{AgreedForm}
use Rattle.key_wrap_core.specs.Forms.{IsWrapping, with_value}
use Rattle.key_wrap_core.specs.NoKey.{NoKey}

-- either form, the plain one with this initial value
abbrev pub IsEither : ℕ → AgreedForm → Type 0
IsEither iv form = (own : Form) × (form ≡ with_value own iv)

-- The text is the wrapping of this key in this form, one of some forms, under E. In these forms it is the wrapping of no
-- other key, and in no other form. The key has no other wrapping in this form.
pub record IsOnlyWrapping (IsFrom : AgreedForm → Type 0) (E : List ℕ → List ℕ) (form : AgreedForm) (key text : List ℕ) : Type 0 where
  pub from : IsFrom form
  pub wrapping : IsWrapping form E key text
  pub only : (other_form : AgreedForm) (other : List ℕ) → IsFrom other_form → IsWrapping other_form E other text
      → (other_form ≡ form) × (other ≡ key)
  pub alone : (other : List ℕ) → IsWrapping form E key other → other ≡ text

-- it is not a valid wrapped key in these forms
abbrev pub NoKeyIn : (AgreedForm → Type 0) → (List ℕ → List ℕ) → List ℕ → Type 0
NoKeyIn IsFrom E text = (form : AgreedForm) → IsFrom form → NoKey (IsWrapping form E) text
