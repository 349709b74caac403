-- The registers of the padded form in one buffer, before and after (RFC 5649, section 4.1).
use Rattle.std.specs.Prelude.{◌≡◌, ℕ, List, ◌∷◌, ◌++◌, length, take, drop}
use Rattle.block_pair.specs.Words.{IsWord}
use Rattle.key_wrap_core.specs.Words.{AreWords, word_bytes, spelled}
use Rattle.key_wrap_core.specs.Lengths.{IsPaddedKeyLength}
use Rattle.key_wrap_core.specs.Padded.{PaddedText, aiv, padded}

-- the bytes before spell an initial value and words of key data, and the bytes after are what these are wrapped to
pub record PaddedRegisters (E : List ℕ → List ℕ) (before after : List ℕ) : Type 0 where
  pub iv : ℕ
  pub P : List ℕ
  pub word : IsWord iv
  pub words : AreWords P
  pub key_words : spelled (iv ∷ P) ≡ before
  pub text_words : PaddedText E iv P after

-- the buffer is the alternative initial value of the key, and then the padded key
abbrev pub IsAivAndKey : List ℕ → List ℕ → Type 0
IsAivAndKey buffer key = buffer ≡ word_bytes (aiv (length key)) ++ padded key

-- the buffer holds a key of that many bytes, which follows its initial value
pub record HasKeyLength (buffer : List ℕ) (len : ℕ) : Type 0 where
  pub legal : IsPaddedKeyLength len
  pub size : length (take len (drop 8 buffer)) ≡ len
  pub holds : IsAivAndKey buffer (take len (drop 8 buffer))
