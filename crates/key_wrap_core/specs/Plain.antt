-- The plain form (RFC 3394, section 2.2).
use Rattle.std.specs.Prelude.{◌≡◌, ℕ, ◌/◌, ◌^◌, List, length}
use Rattle.key_wrap_core.specs.Words.{spelled}
use Rattle.key_wrap_core.specs.Tape.{Wraps}
use Rattle.key_wrap_core.specs.Lengths.{IsPlainKeyLength}

-- the default initial value (section 2.2.3.1)
abbrev pub default_iv : ℕ
default_iv = 0xA6A6_A6A6_A6A6_A6A6

-- the first four bytes are A65959A6, as in the alternative initial value (RFC 5649, section 3). Such values are
-- reserved for the padded form, so that no wrapped key has both forms.
abbrev pub IsReserved : ℕ → Type 0
IsReserved iv = iv / 2 ^ 32 ≡ 0xA659_59A6

-- the wrapped key is the plain wrapping of the key under this initial value: `Wraps` relates their words
pub record Plain (E : List ℕ → List ℕ) (iv : ℕ) (key text : List ℕ) : Type 0 where
  pub legal : IsPlainKeyLength (length key)
  pub P : List ℕ
  pub C : List ℕ
  pub key_words : spelled P ≡ key
  pub text_words : spelled C ≡ text
  pub wraps : Wraps E iv P C
