-- The promise about the form in which a key was wrapped.
use Rattle.std.specs.Prelude.{◌≡◌, ◌↔◌, ◌⊎◌, ◌+◌, ℕ, zero, suc, ℤ, List, length, All}
use Rattle.key_wrap_core.specs.declared.forms.Kind.{Kind}
use Rattle.key_wrap_core.specs.declared.forms.Kind.TheVariants.{Plain, Padded}
use Rattle.key_wrap_core.specs.Lengths.{IsPaddedTextLength}
use Rattle.key_wrap_core.specs.Plain as plain_form
use Rattle.key_wrap_core.specs.Padded as padded_form
use Rattle.key_wrap_core.specs.NoKey.{NoKey}
use Rattle.key_wrap_core.specs.Kind.{IsKindOf, NoOtherKey}
use Rattle.keywrap_calls.specs.Keks.{IsKek}
use Rattle.keywrap_calls.specs.Status.{IsDone, IsBadKek, IsBadLength, IsIntegrity, IsUnwrapStatus}

-- the scratch buffer is 8 bytes shorter than the wrapped key, if the length of the wrapped key is legal in a form
abbrev pub HasScratch : ℕ → ℕ → Type 0
HasScratch text scratch = IsPaddedTextLength text → text ≡ scratch + 8

-- a key of this length, in the plain form if the number is 0, otherwise in the padded form
abbrev pub found_kind : ℕ → ℕ → Kind
found_kind zero m = Plain m
found_kind (suc _) m = Padded m

-- a call that finds the form of the text and the length of its key, for every wrapping
pub record FindsKind (E : List ℕ → List ℕ) (kek text old new : List ℕ) (is_padded key_len : ℕ) (status : ℤ) : Type 0 where
  pub statuses : IsUnwrapStatus status
  pub bad_kek : IsBadKek status ↔ ¬ IsKek kek
  pub bad_length : IsBadLength status ↔ (IsKek kek × ¬ HasScratch (length text) (length old))
  pub integrity : IsIntegrity status
      ↔ (IsKek kek × HasScratch (length text) (length old)
      × NoKey (plain_form.Plain E plain_form.default_iv) text × NoKey (padded_form.Padded E) text)
  pub done : IsDone status → IsKek kek × HasScratch (length text) (length old)
  pub answer : IsDone status → IsKindOf E text (found_kind is_padded key_len)
  pub other_form : IsDone status → NoOtherKey E text (found_kind is_padded key_len)
  pub plain : (key : List ℕ) → IsKek kek → HasScratch (length text) (length old)
      → plain_form.Plain E plain_form.default_iv key text → IsDone status × (is_padded ≡ 0) × (key_len ≡ length key)
  pub padded : (key : List ℕ) → IsKek kek → HasScratch (length text) (length old)
      → padded_form.Padded E key text → IsDone status × (is_padded ≡ 1) × (key_len ≡ length key)
  pub none : ¬ IsDone status → (is_padded ≡ 0) × (key_len ≡ 0)
  pub kept_at_bad_kek : IsBadKek status → new ≡ old
  pub kept_at_bad_length : IsBadLength status → new ≡ old
  pub kept_at_other_length : ¬ IsPaddedTextLength (length text) → new ≡ old
  pub cleared : IsPaddedTextLength (length text) → IsDone status ⊎ IsIntegrity status → All (λ byte. byte ≡ 0) new
