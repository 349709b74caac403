-- The texts of many calls: the lengths of texts and keys, and what becomes of a text that is unwrapped.
use Rattle.std.specs.Prelude.{◌≡◌, ℕ, List, length, drop, replicate, All, Result, Ok, Err, IsErr, IfOk, IsOkUnless}
use Rattle.block_pair.specs.Pair.{AreInverse}
use Rattle.key_wrap_core.specs.declared.faults.InPlaceFault.{InPlaceFault}
use Rattle.key_wrap_core.specs.declared.faults.InPlaceFault.TheVariants.{Integrity}
use Rattle.key_wrap_core.specs.declared.forms.Form.{Form}
use Rattle.key_wrap_core.specs.declared.forms.Form.TheVariants.{Plain, Padded}
use Rattle.key_wrap_core.specs.BufferCalls.{IsKeyBuffer}
use Rattle.key_wrap_core.specs.Forms.{IsTextLengthAs, by_default}
use Rattle.key_wrap_core.specs.InPlace.{ArePlainLengths, IsPaddedRoom, key_in}
use Rattle.key_wrap_core.specs.Steps.{UnwrapState}
use Rattle.key_wrap_core.specs.Unwrapping.{Unwrapping}

-- a text of this length has room for the wrapping of a key of `key_len` bytes in this form, and for nothing more
abbrev pub IsKeyRoom : Form → (key_len text_len : ℕ) → Type 0
IsKeyRoom Plain key_len text_len = ArePlainLengths key_len text_len
IsKeyRoom Padded key_len text_len = IsPaddedRoom key_len text_len

-- The text was unwrapped in this form, and its buffer holds 8 zeros, the key, of m bytes, and its padding, if the result is
-- Ok m, and zeros otherwise. The lengths are legal.
pub record IsUnwrapped (form : Form) (E : List ℕ → List ℕ) (text buffer : List ℕ) (result : Result ℕ InPlaceFault) : Type 0 where
  pub unwraps : Unwrapping (IsTextLengthAs (by_default form) (length text)) (by_default form) E text (λ m. key_in m buffer) result
  pub only_fault : IsOkUnless result Integrity
  pub key : IfOk result (λ m. IsKeyBuffer (replicate 8 0) (key_in m buffer) m buffer)
  pub cleared : IsErr result → All (λ byte. byte ≡ 0) buffer

-- The end of an unwrapping with no step left, over a buffer and a block: for every E that has an inverse.
abbrev pub EndsText : (form : Form) (old block new : List ℕ) (result : Result ℕ InPlaceFault) → Type 0
EndsText form old block new result = (E D : List ℕ → List ℕ) (text : List ℕ) → AreInverse E D → length text ≡ length old
    → UnwrapState E text 0 (drop 8 old) block → IsUnwrapped form E text new result

-- the status and the length of a key, as a call for many texts returns them
abbrev pub text_status : Result ℕ InPlaceFault → ℕ
text_status (Ok m) = 0
text_status (Err fault) = 5

abbrev pub found_len : Result ℕ InPlaceFault → ℕ
found_len (Ok m) = m
found_len (Err fault) = 0

-- The same for one of many texts, by its status, 0 or 5, and the length of its key, or 0.
pub record UnwrapsText (form : Form) (E : List ℕ → List ℕ) (text buffer : List ℕ) (key_len status : ℕ) : Type 0 where
  pub result : Result ℕ InPlaceFault
  pub unwrapped : IsUnwrapped form E text buffer result
  pub status_is : status ≡ text_status result
  pub key_len_is : key_len ≡ found_len result

-- The end of one of many unwrappings.
pub record EndsLane (form : Form) (old block new : List ℕ) (key_len status : ℕ) : Type 0 where
  pub result : Result ℕ InPlaceFault
  pub ends : EndsText form old block new result
  pub status_is : status ≡ text_status result
  pub key_len_is : key_len ≡ found_len result
