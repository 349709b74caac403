-- The forms of many texts: what is found of each.
use Rattle.std.specs.Prelude.{◌≡◌, ℕ, List, length, drop}
use Rattle.block_pair.specs.Pair.{AreInverse}
use Rattle.key_wrap_core.specs.declared.forms.Kind.{Kind}
use Rattle.key_wrap_core.specs.declared.forms.Kind.TheVariants.{Plain, Padded, Neither}
use Rattle.key_wrap_core.specs.Kind.{IsTheKind}
use Rattle.key_wrap_core.specs.Plain.{default_iv}
use Rattle.key_wrap_core.specs.Steps.{UnwrapState}

-- the numbers that a call for many texts returns for a kind: the form, the length of the key, and the status
abbrev pub AreNumbersOf : Kind → (is_padded key_len status : ℕ) → Type 0
AreNumbersOf (Plain m) is_padded key_len status = (status ≡ 0) × (is_padded ≡ 0) × (key_len ≡ m)
AreNumbersOf (Padded m) is_padded key_len status = (status ≡ 0) × (is_padded ≡ 1) × (key_len ≡ m)
AreNumbersOf Neither is_padded key_len status = (status ≡ 5) × (is_padded ≡ 0) × (key_len ≡ 0)

-- The kind of one of many texts, by these numbers.
pub record FindsText (E : List ℕ → List ℕ) (text : List ℕ) (is_padded key_len status : ℕ) : Type 0 where
  pub kind : Kind
  pub is : IsTheKind default_iv E text kind
  pub numbers : AreNumbersOf kind is_padded key_len status

-- The end of one of many unwrappings with no step left, over a buffer and a block: for every E that has an inverse.
abbrev pub EndsKind : (old block : List ℕ) (is_padded key_len status : ℕ) → Type 0
EndsKind old block is_padded key_len status = (E D : List ℕ → List ℕ) (text : List ℕ) → AreInverse E D → length text ≡ length old
    → UnwrapState E text 0 (drop 8 old) block → FindsText E text is_padded key_len status
