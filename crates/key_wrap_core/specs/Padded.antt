-- The padded form (RFC 5649), stated from the key.
use Rattle.std.specs.Prelude.{◌≡◌, ℕ, ◌+◌, ◌-◌, ◌*◌, ◌/◌, ◌^◌, List, [], ◌∷◌, ◌++◌, length, replicate}
use Rattle.key_wrap_core.specs.Words.{AreWords, spelled, joined}
use Rattle.key_wrap_core.specs.Tape.{Wraps}
use Rattle.key_wrap_core.specs.Lengths.{IsPaddedKeyLength}

-- the alternative initial value of a key of m bytes (section 3): A65959A6, then m in four bytes, the most
-- significant first
abbrev pub aiv : ℕ → ℕ
aiv m = 0xA659_59A6 * 2 ^ 32 + m

-- n = ceil(m / 8), the number of words of a padded key of m bytes (section 4.1)
abbrev pub word_count : ℕ → ℕ
word_count m = (m + 7) / 8

-- the key, then the fewest zero bytes that reach a multiple of 8 (section 4.1)
abbrev pub padded : List ℕ → List ℕ
padded key = key ++ replicate (8 * word_count (length key) - length key) 0

-- The result C of wrapping the words P under an initial value (section 4.1). One word is encrypted with the initial
-- value in one block, without steps and counter. More words are wrapped as in RFC 3394.
abbrev pub PaddedText : (List ℕ → List ℕ) → ℕ → List ℕ → List ℕ → Type 0
PaddedText E iv (p ∷ []) text = E (joined iv p) ≡ text
PaddedText E iv P text = (C : List ℕ) × (spelled C ≡ text) × Wraps E iv P C

-- the wrapped key is the padded wrapping of the key
pub record Padded (E : List ℕ → List ℕ) (key text : List ℕ) : Type 0 where
  pub legal : IsPaddedKeyLength (length key)
  pub P : List ℕ
  pub words : AreWords P
  pub key_words : spelled P ≡ padded key
  pub text_words : PaddedText E (aiv (length key)) P text
