-- The promise of each call about its status and its buffers: `old` is a buffer before the call, `new` after it. E is
-- the block permutation of the KEK.
use Rattle.std.specs.Prelude.{◌≡◌, ◌↔◌, ◌++◌, ℕ, ℤ, List, length, drop, take, All}
use Rattle.key_wrap_core.specs.Lengths.{IsPlainTextLength, IsPaddedTextLength}
use Rattle.key_wrap_core.specs.Plain.{Plain, default_iv}
use Rattle.key_wrap_core.specs.Padded.{Padded, padded}
use Rattle.key_wrap_core.specs.NoKey.{NoKey, NoPlainKey}
use Rattle.key_wrap_core.specs.InPlace.{IsPaddedRoom, ArePlainLengths, ArePaddedLengths, key_in}
use Rattle.keywrap_calls.specs.Keks.{IsKek}
use Rattle.keywrap_calls.specs.Status.{IsDone, IsBadIv, IsBadKek, IsBadLength, IsIntegrity, IsWrapStatus, IsUnwrapStatus}
use Rattle.keywrap_calls.specs.CallAnswers.{IsWrapAnswer, IsUnwrapAnswer}
use Rattle.keywrap_calls.specs.AgreedValue.{IsIv, iv_word}

-- a call that wraps the key, in the form with this relation of keys and texts, if the lengths of its buffers are legal
pub record IsWrapCall (Legal : Type 0) (Relates : List ℕ → List ℕ → Type 0) (kek key old new : List ℕ) (status : ℤ) : Type 0 where
  pub statuses : IsWrapStatus status
  pub bad_kek : IsBadKek status ↔ ¬ IsKek kek
  pub bad_length : IsBadLength status ↔ (IsKek kek × ¬ Legal)
  pub done : IsDone status ↔ (IsKek kek × Legal)
  pub kept : ¬ IsDone status → new ≡ old
  pub answer : IsDone status → IsWrapAnswer Relates key new

-- a call that unwraps the text and finds the key; in the other form the text is not a wrapping. A wrapping is refused
-- only for its lengths
pub record IsUnwrapCall (Legal : Type 0) (Relates Other : List ℕ → List ℕ → Type 0) (kek text key old new : List ℕ) (status : ℤ)
    : Type 0 where
  pub statuses : IsUnwrapStatus status
  pub bad_kek : IsBadKek status ↔ ¬ IsKek kek
  pub bad_length : IsBadLength status ↔ (IsKek kek × ¬ Legal)
  pub done : IsDone status → IsKek kek × Legal
  pub integrity : IsIntegrity status ↔ (IsKek kek × Legal × NoKey Relates text)
  pub kept_at_bad_kek : IsBadKek status → new ≡ old
  pub kept_at_bad_length : IsBadLength status → new ≡ old
  pub cleared : IsIntegrity status → All (λ byte. byte ≡ 0) new
  pub answer : IsDone status → IsUnwrapAnswer Relates Other text key
  pub accepts : (other : List ℕ) → IsKek kek → Legal → Relates other text → IsDone status

-- a call under an initial value that both ends agreed on: a refused value is the first cause, and leaves the buffer
-- unchanged
pub record IsCallWith (Call : Type 0) (iv old new : List ℕ) (status : ℤ) : Type 0 where
  pub bad_iv : IsBadIv status ↔ ¬ IsIv iv
  pub kept_at_bad_iv : IsBadIv status → new ≡ old
  pub call : IsIv iv → Call

-- the result of unwrapping the padded form: a key of this length is in the buffer after these bytes, with its padding;
-- and the text is not a plain wrapping, under any initial value
pub record IsPaddedKey (E : List ℕ → List ℕ) (text key front new : List ℕ) (key_len : ℕ) (status : ℤ) : Type 0 where
  pub no_key : ¬ IsDone status → key_len ≡ 0
  pub other_values : IsDone status → NoPlainKey E text
  pub size : IsDone status → length key ≡ key_len
  pub around : IsDone status → new ≡ front ++ padded key

-- the plain form, from one buffer into another
abbrev pub WrapsPlain : (E : List ℕ → List ℕ) (kek key old new : List ℕ) (status : ℤ) → Type 0
WrapsPlain E kek key old new status = IsWrapCall (ArePlainLengths (length key) (length old)) (Plain E default_iv) kek key old new status

abbrev pub UnwrapsPlain : (E : List ℕ → List ℕ) (kek text old new : List ℕ) (status : ℤ) → Type 0
UnwrapsPlain E kek text old new status =
    IsUnwrapCall (ArePlainLengths (length old) (length text)) (Plain E default_iv) (Padded E) kek text new old new status

-- the plain form under an initial value, from one buffer into another
abbrev pub WrapsWith : (E : List ℕ → List ℕ) (kek iv key old new : List ℕ) (status : ℤ) → Type 0
WrapsWith E kek iv key old new status =
    IsCallWith (IsWrapCall (ArePlainLengths (length key) (length old)) (Plain E (iv_word iv)) kek key old new status) iv old new status

abbrev pub UnwrapsWith : (E : List ℕ → List ℕ) (kek iv text old new : List ℕ) (status : ℤ) → Type 0
UnwrapsWith E kek iv text old new status =
    IsCallWith (IsUnwrapCall (ArePlainLengths (length old) (length text)) (Plain E (iv_word iv)) (Padded E) kek text new old new status)
    iv old new status

-- the plain form in one buffer: the key follows the first 8 bytes, which an unwrapping leaves zero
abbrev pub WrapsInPlace : (E : List ℕ → List ℕ) (kek old new : List ℕ) (status : ℤ) → Type 0
WrapsInPlace E kek old new status =
    IsWrapCall (IsPlainTextLength (length old)) (Plain E default_iv) kek (drop 8 old) old new status

abbrev pub UnwrapsInPlace : (E : List ℕ → List ℕ) (kek old new : List ℕ) (status : ℤ) → Type 0
UnwrapsInPlace E kek old new status =
    IsUnwrapCall (IsPlainTextLength (length old)) (Plain E default_iv) (Padded E) kek old (drop 8 new) old new status

-- the padded form, from one buffer into another: the buffer begins with the key
abbrev pub WrapsPadded : (E : List ℕ → List ℕ) (kek key old new : List ℕ) (status : ℤ) → Type 0
WrapsPadded E kek key old new status = IsWrapCall (IsPaddedRoom (length key) (length old)) (Padded E) kek key old new status

abbrev pub UnwrapsPadded : (E : List ℕ → List ℕ) (kek text old new : List ℕ) (key_len : ℕ) (status : ℤ) → Type 0
UnwrapsPadded E kek text old new key_len status =
    IsUnwrapCall (ArePaddedLengths (length old) (length text)) (Padded E) (Plain E default_iv) kek text (take key_len new) old new status

-- the padded form in one buffer: the key, of this length, follows the first 8 bytes
abbrev pub WrapsPaddedInPlace : (E : List ℕ → List ℕ) (kek : List ℕ) (key_len : ℕ) (old new : List ℕ) (status : ℤ) → Type 0
WrapsPaddedInPlace E kek key_len old new status =
    IsWrapCall (IsPaddedRoom key_len (length old)) (Padded E) kek (key_in key_len old) old new status

abbrev pub UnwrapsPaddedInPlace : (E : List ℕ → List ℕ) (kek old new : List ℕ) (key_len : ℕ) (status : ℤ) → Type 0
UnwrapsPaddedInPlace E kek old new key_len status =
    IsUnwrapCall (IsPaddedTextLength (length old)) (Padded E) (Plain E default_iv) kek old (key_in key_len new) old new status
