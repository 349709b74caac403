-- The promise of the unwrap that accepts a wrapped key in either form.
use Rattle.std.specs.Prelude.{◌≡◌, ◌↔◌, ◌⊎◌, ℕ, ℤ, zero, suc, ◌<◌, List, length, take, All}
use Rattle.key_wrap_core.specs.declared.forms.Form.{Form}
use Rattle.key_wrap_core.specs.declared.forms.Form.TheVariants.{Plain, Padded}
use Rattle.key_wrap_core.specs.InPlace.{ArePaddedLengths}
use Rattle.key_wrap_core.specs.Padded.{padded}
use Rattle.key_wrap_core.specs.Plain.{default_iv}
use Rattle.key_wrap_core.specs.Forms.{IsDefaultWrapping, NoOtherForm, by_default}
use Rattle.key_wrap_core.specs.EitherForm.{IsEither, IsOnlyWrapping, NoKeyIn}
use Rattle.keywrap_calls.specs.Keks.{IsKek}
use Rattle.keywrap_calls.specs.Status.{IsDone, IsBadKek, IsBadLength, IsIntegrity, IsUnwrapStatus}

-- the plain form if the number is 0, otherwise the padded form
abbrev pub form_of : ℕ → Form
form_of zero = Plain
form_of (suc _) = Padded

-- a call that finds the key and its form: the text is the wrapping of this key only, in this form only. The buffer is the
-- key, with its padding in the padded form. A wrapping in either form is refused only for its lengths.
pub record UnwrapsAny (E : List ℕ → List ℕ) (kek text old new : List ℕ) (is_padded key_len : ℕ) (status : ℤ) : Type 0 where
  pub statuses : IsUnwrapStatus status
  pub bad_kek : IsBadKek status ↔ ¬ IsKek kek
  pub bad_length : IsBadLength status ↔ (IsKek kek × ¬ ArePaddedLengths (length old) (length text))
  pub integrity : IsIntegrity status
      ↔ (IsKek kek × ArePaddedLengths (length old) (length text) × NoKeyIn (IsEither default_iv) E text)
  pub answer : IsDone status → IsOnlyWrapping (IsEither default_iv) E (by_default (form_of is_padded)) (take key_len new) text
  pub other_form : IsDone status → NoOtherForm (by_default (form_of is_padded)) E text
  pub accepts : (form : Form) (key : List ℕ) → IsKek kek → ArePaddedLengths (length old) (length text)
      → IsDefaultWrapping form E key text → IsDone status
  pub size : IsDone status → length (take key_len new) ≡ key_len
  pub buffer : IsDone status → new ≡ padded (take key_len new)
  pub flag : is_padded < 2
  pub none : ¬ IsDone status → (is_padded ≡ 0) × (key_len ≡ 0)
  pub kept : IsBadKek status ⊎ IsBadLength status → new ≡ old
  pub cleared : IsIntegrity status → All (λ byte. byte ≡ 0) new
