-- The registers in one buffer, before the first step and after the last (RFC 3394, section 2.2.1).
use Rattle.std.specs.Prelude.{◌≡◌, ℕ, List, ◌∷◌}
use Rattle.key_wrap_core.specs.Words.{spelled}
use Rattle.key_wrap_core.specs.Tape.{Wraps}

-- the bytes before spell an initial value and words of key data, the bytes after spell the words of the wrapped key,
-- and a wrapping relates them
pub record Registers (E : List ℕ → List ℕ) (before after : List ℕ) : Type 0 where
  pub iv : ℕ
  pub P : List ℕ
  pub C : List ℕ
  pub key_words : spelled (iv ∷ P) ≡ before
  pub text_words : spelled C ≡ after
  pub wraps : Wraps E iv P C
