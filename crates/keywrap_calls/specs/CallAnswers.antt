-- The buffers after a successful call, in the form with this relation of keys and texts.
use Rattle.std.specs.Prelude.{◌≡◌, ℕ, List}
use Rattle.key_wrap_core.specs.NoKey.{NoKey}

-- the text wraps the key, and no other text does
pub record IsWrapAnswer (Relates : List ℕ → List ℕ → Type 0) (key text : List ℕ) : Type 0 where
  pub wrapping : Relates key text
  pub only_text : (other : List ℕ) → Relates key other → other ≡ text

-- the text is the wrapping of this key, and of no other; wrapping the key again restores the text; and in the other
-- form the text is not a wrapping
pub record IsUnwrapAnswer (Relates Other : List ℕ → List ℕ → Type 0) (text key : List ℕ) : Type 0 where
  pub wrapping : Relates key text
  pub only_key : (other : List ℕ) → Relates other text → other ≡ key
  pub restores : (other : List ℕ) → Relates key other → other ≡ text
  pub other_form : NoKey Other text
