-- Texts that are not wrapped keys.
use Rattle.std.specs.Prelude.{ℕ, List}
use Rattle.block_pair.specs.Words.{IsWord}
use Rattle.key_wrap_core.specs.Plain.{Plain, IsReserved}

-- the wrapped key is not the wrapping of a key
abbrev pub NoKey : (List ℕ → List ℕ → Type 0) → List ℕ → Type 0
NoKey Relates text = (key : List ℕ) → ¬ Relates key text

-- the wrapped key is not a plain wrapping, under any initial value
abbrev pub NoPlainKey : (List ℕ → List ℕ) → List ℕ → Type 0
NoPlainKey E text = (iv : ℕ) → IsWord iv → ¬ IsReserved iv → NoKey (Plain E iv) text
