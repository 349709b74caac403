-- The kind of a wrapped key.
use Rattle.std.specs.Prelude.{◌≡◌, ℕ, List, length}
use Rattle.key_wrap_core.specs.declared.forms.Form.{Form}
use Rattle.key_wrap_core.specs.declared.forms.Form.TheVariants as forms
use Rattle.key_wrap_core.specs.declared.forms.Kind.{Kind}
use Rattle.key_wrap_core.specs.declared.forms.Kind.TheVariants.{Plain as InPlain, Padded as InPadded, Neither}
use Rattle.key_wrap_core.specs.Plain.{Plain, default_iv}
use Rattle.key_wrap_core.specs.Padded.{Padded}
use Rattle.key_wrap_core.specs.NoKey.{NoKey, NoPlainKey}

-- the kind of a key of this length in this form
abbrev pub kind_as : Form → ℕ → Kind
kind_as forms.Plain m = InPlain m
kind_as forms.Padded m = InPadded m

-- it is the wrapping of a key of that length in that form, in the plain form with the initial value `iv`; or it is not
-- a wrapping in either form
abbrev pub IsKindWith : ℕ → (List ℕ → List ℕ) → List ℕ → Kind → Type 0
IsKindWith iv E text (InPlain m) = (key : List ℕ) × (length key ≡ m) × Plain E iv key text
IsKindWith iv E text (InPadded m) = (key : List ℕ) × (length key ≡ m) × Padded E key text
IsKindWith iv E text Neither = NoKey (Plain E iv) text × NoKey (Padded E) text

-- the same under the default initial value
abbrev pub IsKindOf : (List ℕ → List ℕ) → List ℕ → Kind → Type 0
IsKindOf E text kind = IsKindWith default_iv E text kind

-- it is not a wrapping in the form that the kind does not name, under any initial value
abbrev pub NoOtherKey : (List ℕ → List ℕ) → List ℕ → Kind → Type 0
NoOtherKey E text (InPlain m) = NoKey (Padded E) text
NoOtherKey E text (InPadded m) = NoPlainKey E text
NoOtherKey E text Neither = NoKey (Padded E) text

-- the promise about the kind of a wrapped key
pub record IsTheKind (iv : ℕ) (E : List ℕ → List ℕ) (text : List ℕ) (kind : Kind) : Type 0 where
  pub is : IsKindWith iv E text kind
  pub plain : (key : List ℕ) → Plain E iv key text → kind ≡ InPlain (length key)
  pub padded : (key : List ℕ) → Padded E key text → kind ≡ InPadded (length key)
  pub neither : NoKey (Plain E iv) text → NoKey (Padded E) text → kind ≡ Neither
  pub other_form : NoOtherKey E text kind
