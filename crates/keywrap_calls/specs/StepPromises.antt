-- The promises of the calls that make a wrapping or an unwrapping step by step: `old` is a buffer or a number before the
-- call, `new` after it. E is any permutation of blocks, which the caller applies between two calls.
use Rattle.std.specs.Prelude.{◌≡◌, ◌↔◌, ◌⊎◌, ℕ, ℤ, ◌+◌, ◌≤◌, ◌<◌, ◌++◌, List, length, take, All}
use Rattle.block_pair.specs.Pair.{AreInverse}
use Rattle.key_wrap_core.specs.Lengths.{IsPlainKeyLength, IsPaddedKeyLength, IsPaddedTextLength}
use Rattle.key_wrap_core.specs.Plain.{Plain, default_iv}
use Rattle.key_wrap_core.specs.Padded.{Padded, aiv, padded}
use Rattle.key_wrap_core.specs.NoKey.{NoKey, NoPlainKey}
use Rattle.key_wrap_core.specs.InPlace.{IsPaddedRoom}
use Rattle.key_wrap_core.specs.BlockCalls.{block_calls}
use Rattle.key_wrap_core.specs.Steps.{WrapState, UnwrapState}
use Rattle.key_wrap_core.specs.Forms.{NoOtherForm, by_default}
use Rattle.key_wrap_core.specs.EitherForm.{IsEither, IsOnlyWrapping, NoKeyIn}
use Rattle.keywrap_calls.specs.Status.{IsDone, IsBadIv, IsBadLength, IsIntegrity}
use Rattle.keywrap_calls.specs.CallAnswers.{IsUnwrapAnswer}
use Rattle.keywrap_calls.specs.AgreedValue.{IsIv, iv_word}
use Rattle.keywrap_calls.specs.Any.{form_of}

-- a call that begins the plain wrapping of the key in the registers
pub record BeginsWrap (iv registers : List ℕ) (old_done new_done : ℕ) (old_block new_block : List ℕ) (status : ℤ) : Type 0 where
  pub statuses : IsDone status ⊎ (IsBadIv status ⊎ IsBadLength status)
  pub bad_iv : IsBadIv status ↔ ¬ IsIv iv
  pub bad_length : IsBadLength status ↔ (IsIv iv × ¬ IsPlainKeyLength (length registers))
  pub kept : ¬ IsDone status → (new_done ≡ old_done) × (new_block ≡ old_block)
  pub none_done : IsDone status → new_done ≡ 0
  pub begins : IsDone status → (E : List ℕ → List ℕ) → WrapState E (iv_word iv) registers 0 registers new_block

-- a call that pads the first bytes of the registers, a key of this length, and begins its padded wrapping
pub record BeginsPadded (key_len : ℕ) (old new : List ℕ) (old_done new_done : ℕ) (old_block new_block : List ℕ) (status : ℤ)
    : Type 0 where
  pub statuses : IsDone status ⊎ IsBadLength status
  pub bad_length : IsBadLength status ↔ ¬ IsPaddedRoom key_len (8 + length old)
  pub registers_kept : ¬ IsDone status → new ≡ old
  pub kept : ¬ IsDone status → (new_done ≡ old_done) × (new_block ≡ old_block)
  pub none_done : IsDone status → new_done ≡ 0
  pub pads : IsDone status → new ≡ padded (take key_len old)
  pub begins : IsDone status → (E : List ℕ → List ℕ)
      → WrapState E (aiv key_len) (padded (take key_len old)) 0 new new_block

-- a call that makes one step with the encrypted block
pub record StepsWrap (old new : List ℕ) (old_done new_done : ℕ) (old_block new_block : List ℕ) (status : ℤ) : Type 0 where
  pub statuses : IsDone status ⊎ IsBadLength status
  pub bad_length : IsBadLength status ↔ ¬ (IsPaddedTextLength (8 + length old) × (old_done < block_calls (8 + length old)))
  pub registers_kept : ¬ IsDone status → new ≡ old
  pub kept : ¬ IsDone status → (new_done ≡ old_done) × (new_block ≡ old_block)
  pub counts : IsDone status → new_done ≡ old_done + 1
  pub steps : IsDone status → (E : List ℕ → List ℕ) (iv : ℕ) (key before : List ℕ)
      → WrapState E iv key old_done old before → old_block ≡ E before → WrapState E iv key new_done new new_block

-- a call that ends a wrapping in either form: it writes the first 8 bytes of the wrapped key
pub record EndsWrap (old new registers : List ℕ) (done : ℕ) (block : List ℕ) (status : ℤ) : Type 0 where
  pub statuses : IsDone status ⊎ IsBadLength status
  pub bad_length : IsBadLength status
      ↔ ¬ (IsPaddedTextLength (8 + length registers) × (done ≡ block_calls (8 + length registers)))
  pub kept : ¬ IsDone status → new ≡ old
  pub plain : IsDone status → (E : List ℕ → List ℕ) (iv : ℕ) (key : List ℕ) → IsPlainKeyLength (length key)
      → WrapState E iv key done registers block → Plain E iv key (new ++ registers)
  pub padded : IsDone status → (E : List ℕ → List ℕ) (key : List ℕ) → IsPaddedKeyLength (length key)
      → WrapState E (aiv (length key)) (padded key) done registers block → Padded E key (new ++ registers)

-- a call that begins an unwrapping, in the form that has these lengths of texts
pub record BeginsUnwrap (Legal : ℕ → Type 0) (first registers : List ℕ) (old_left new_left : ℕ) (old_block new_block : List ℕ)
    (status : ℤ) : Type 0 where
  pub statuses : IsDone status ⊎ IsBadLength status
  pub bad_length : IsBadLength status ↔ ¬ Legal (8 + length registers)
  pub kept : ¬ IsDone status → (new_left ≡ old_left) × (new_block ≡ old_block)
  pub all_left : IsDone status → new_left ≡ block_calls (8 + length registers)
  pub begins : IsDone status → (E : List ℕ → List ℕ) → UnwrapState E (first ++ registers) new_left registers new_block

-- a call that undoes one step with the decrypted block
pub record StepsUnwrap (old new : List ℕ) (old_left new_left : ℕ) (old_block new_block : List ℕ) (status : ℤ) : Type 0 where
  pub statuses : IsDone status ⊎ IsBadLength status
  pub bad_length : IsBadLength status
      ↔ ¬ (IsPaddedTextLength (8 + length old) × (1 ≤ old_left) × (old_left ≤ block_calls (8 + length old)))
  pub registers_kept : ¬ IsDone status → new ≡ old
  pub kept : ¬ IsDone status → (new_left ≡ old_left) × (new_block ≡ old_block)
  pub counts : IsDone status → old_left ≡ new_left + 1
  pub steps : IsDone status → (E : List ℕ → List ℕ) (text before : List ℕ)
      → UnwrapState E text old_left old before → E old_block ≡ before → UnwrapState E text new_left new new_block

-- a call that ends a plain unwrapping: for every E that has an inverse, the key, or no key has this wrapping
pub record EndsUnwrap (iv old new : List ℕ) (left : ℕ) (old_block new_block : List ℕ) (status : ℤ) : Type 0 where
  pub statuses : IsDone status ⊎ (IsBadIv status ⊎ (IsBadLength status ⊎ IsIntegrity status))
  pub bad_iv : IsBadIv status ↔ ¬ IsIv iv
  pub bad_length : IsBadLength status ↔ (IsIv iv × ¬ (IsPlainKeyLength (length old) × (left ≡ 0)))
  pub kept : IsBadIv status ⊎ IsBadLength status → (new ≡ old) × (new_block ≡ old_block)
  pub answer : IsDone status → (E D : List ℕ → List ℕ) (text : List ℕ) → AreInverse E D
      → UnwrapState E text left old old_block → IsUnwrapAnswer (Plain E (iv_word iv)) (Padded E) text new
  pub integrity : IsIntegrity status → (E D : List ℕ → List ℕ) (text : List ℕ) → AreInverse E D
      → UnwrapState E text left old old_block → NoKey (Plain E (iv_word iv)) text
  pub cleared : IsIntegrity status → All (λ byte. byte ≡ 0) new
  pub block_cleared : IsDone status ⊎ IsIntegrity status → All (λ byte. byte ≡ 0) new_block

-- a call that ends a padded unwrapping: for every E that has an inverse, the key, of this length, or no key has this wrapping
pub record EndsPadded (old new : List ℕ) (left : ℕ) (old_block new_block : List ℕ) (key_len : ℕ) (status : ℤ) : Type 0 where
  pub statuses : IsDone status ⊎ (IsBadLength status ⊎ IsIntegrity status)
  pub bad_length : IsBadLength status ↔ ¬ (IsPaddedTextLength (8 + length old) × (left ≡ 0))
  pub kept : IsBadLength status → (new ≡ old) × (new_block ≡ old_block)
  pub no_key : ¬ IsDone status → key_len ≡ 0
  pub answer : IsDone status → (E D : List ℕ → List ℕ) (text : List ℕ) → AreInverse E D
      → UnwrapState E text left old old_block → Padded E (take key_len new) text × NoPlainKey E text
  pub only_key : IsDone status → (E D : List ℕ → List ℕ) (text other : List ℕ) → AreInverse E D
      → UnwrapState E text left old old_block → Padded E other text → other ≡ take key_len new
  pub integrity : IsIntegrity status → (E D : List ℕ → List ℕ) (text : List ℕ) → AreInverse E D
      → UnwrapState E text left old old_block → NoKey (Padded E) text
  pub size : IsDone status → length (take key_len new) ≡ key_len
  pub around : IsDone status → new ≡ padded (take key_len new)
  pub cleared : IsIntegrity status → All (λ byte. byte ≡ 0) new
  pub block_cleared : IsDone status ⊎ IsIntegrity status → All (λ byte. byte ≡ 0) new_block

-- a call that ends an unwrapping in either form: for every E that has an inverse, the key, of this length, in the form that the
-- text has, or no key has this wrapping
pub record EndsAny (old new : List ℕ) (left : ℕ) (old_block new_block : List ℕ) (is_padded key_len : ℕ) (status : ℤ) : Type 0 where
  pub statuses : IsDone status ⊎ (IsBadLength status ⊎ IsIntegrity status)
  pub bad_length : IsBadLength status ↔ ¬ (IsPaddedTextLength (8 + length old) × (left ≡ 0))
  pub kept : IsBadLength status → (new ≡ old) × (new_block ≡ old_block)
  pub none : ¬ IsDone status → (is_padded ≡ 0) × (key_len ≡ 0)
  pub answer : IsDone status → (E D : List ℕ → List ℕ) (text : List ℕ) → AreInverse E D → UnwrapState E text left old old_block
      → IsOnlyWrapping (IsEither default_iv) E (by_default (form_of is_padded)) (take key_len new) text
      × NoOtherForm (by_default (form_of is_padded)) E text
  pub integrity : IsIntegrity status → (E D : List ℕ → List ℕ) (text : List ℕ) → AreInverse E D
      → UnwrapState E text left old old_block → NoKeyIn (IsEither default_iv) E text
  pub flag : is_padded < 2
  pub size : IsDone status → length (take key_len new) ≡ key_len
  pub around : IsDone status → new ≡ padded (take key_len new)
  pub cleared : IsIntegrity status → All (λ byte. byte ≡ 0) new
  pub block_cleared : IsDone status ⊎ IsIntegrity status → All (λ byte. byte ≡ 0) new_block
