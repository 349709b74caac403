-- The promises of the calls that make one step of many wrappings or unwrappings of `n` bytes each: `old` is a number or the
-- blocks before the call, `new` after it. E is any permutation of blocks, which the caller applies to each block between two
-- calls.
use Rattle.std.specs.Prelude.{◌≡◌, ◌↔◌, ◌⊎◌, ℕ, ℤ, ◌+◌, ◌/◌, ◌≤◌, ◌<◌, List, length, take, drop, All}
use Rattle.key_wrap_core.specs.Lengths.{IsPlainKeyLength, IsPaddedKeyLength}
use Rattle.key_wrap_core.specs.Plain.{Plain}
use Rattle.key_wrap_core.specs.Padded.{Padded, aiv, padded}
use Rattle.key_wrap_core.specs.BlockCalls.{block_calls}
use Rattle.key_wrap_core.specs.Steps.{WrapState, UnwrapState}
use Rattle.key_wrap_core.specs.StepCalls.{IsWrapStep, IsUnwrapStep}
use Rattle.keywrap_calls.specs.Status.{IsDone, IsBadIv, IsBadLength}
use Rattle.keywrap_calls.specs.AgreedValue.{IsIv, iv_word}
use Rattle.key_wrap_lanes.specs.Lanes.{AreLanes, IsEnded, part_at, registers_at, block_at}

-- a call that begins the plain wrapping of the key in each text
pub record BeginsWraps (iv : List ℕ) (n : ℕ) (texts : List ℕ) (old_done new_done : ℕ) (old new : List ℕ) (status : ℤ) : Type 0 where
  pub statuses : IsDone status ⊎ (IsBadIv status ⊎ IsBadLength status)
  pub bad_iv : IsBadIv status ↔ ¬ IsIv iv
  pub bad_length : IsBadLength status ↔ (IsIv iv × ¬ AreLanes n texts old)
  pub kept : ¬ IsDone status → (new_done ≡ old_done) × (new ≡ old)
  pub none_done : IsDone status → new_done ≡ 0
  pub begins : IsDone status → (i : ℕ) → i < length old / 16 → (E : List ℕ → List ℕ)
      → WrapState E (iv_word iv) (registers_at n i texts) 0 (registers_at n i texts) (block_at i new)

-- a call that makes one step of each wrapping with its encrypted block; the first 8 bytes of a text stay
pub record StepsWraps (n : ℕ) (texts texts' : List ℕ) (old_done new_done : ℕ) (old new : List ℕ) (status : ℤ) : Type 0 where
  pub statuses : IsDone status ⊎ IsBadLength status
  pub bad_length : IsBadLength status ↔ ¬ (AreLanes n texts old × (old_done < block_calls n))
  pub texts_kept : ¬ IsDone status → texts' ≡ texts
  pub kept : ¬ IsDone status → (new_done ≡ old_done) × (new ≡ old)
  pub counts : IsDone status → new_done ≡ old_done + 1
  pub firsts : IsDone status → (i : ℕ) → i < length old / 16 → take 8 (part_at n i texts') ≡ take 8 (part_at n i texts)
  pub steps : IsDone status → (i : ℕ) → i < length old / 16
      → IsWrapStep old_done new_done (registers_at n i texts) (registers_at n i texts') (block_at i old) (block_at i new)

-- a call that ends each wrapping, in either form: each text becomes the wrapped key
pub record EndsWraps (n : ℕ) (texts texts' : List ℕ) (done : ℕ) (blocks : List ℕ) (status : ℤ) : Type 0 where
  pub statuses : IsDone status ⊎ IsBadLength status
  pub bad_length : IsBadLength status ↔ ¬ (AreLanes n texts blocks × (done ≡ block_calls n))
  pub kept : ¬ IsDone status → texts' ≡ texts
  pub plain : IsDone status → (i : ℕ) → i < length blocks / 16 → (E : List ℕ → List ℕ) (iv : ℕ) (key : List ℕ)
      → IsPlainKeyLength (length key) → WrapState E iv key done (registers_at n i texts) (block_at i blocks)
      → Plain E iv key (part_at n i texts')
  pub padded : IsDone status → (i : ℕ) → i < length blocks / 16 → (E : List ℕ → List ℕ) (key : List ℕ)
      → IsPaddedKeyLength (length key)
      → WrapState E (aiv (length key)) (padded key) done (registers_at n i texts) (block_at i blocks)
      → Padded E key (part_at n i texts')

-- a call that begins the plain unwrapping of each text
pub record BeginsUnwraps (n : ℕ) (texts : List ℕ) (old_left new_left : ℕ) (old new : List ℕ) (status : ℤ) : Type 0 where
  pub statuses : IsDone status ⊎ IsBadLength status
  pub bad_length : IsBadLength status ↔ ¬ AreLanes n texts old
  pub kept : ¬ IsDone status → (new_left ≡ old_left) × (new ≡ old)
  pub all_left : IsDone status → new_left ≡ block_calls n
  pub begins : IsDone status → (i : ℕ) → i < length old / 16 → (E : List ℕ → List ℕ)
      → UnwrapState E (part_at n i texts) new_left (drop 8 (part_at n i texts)) (block_at i new)

-- a call that undoes one step of each unwrapping with its decrypted block; the first 8 bytes of a text stay
pub record StepsUnwraps (n : ℕ) (texts texts' : List ℕ) (old_left new_left : ℕ) (old new : List ℕ) (status : ℤ) : Type 0 where
  pub statuses : IsDone status ⊎ IsBadLength status
  pub bad_length : IsBadLength status ↔ ¬ (AreLanes n texts old × (1 ≤ old_left) × (old_left ≤ block_calls n))
  pub texts_kept : ¬ IsDone status → texts' ≡ texts
  pub kept : ¬ IsDone status → (new_left ≡ old_left) × (new ≡ old)
  pub counts : IsDone status → old_left ≡ new_left + 1
  pub firsts : IsDone status → (i : ℕ) → i < length old / 16 → take 8 (part_at n i texts') ≡ take 8 (part_at n i texts)
  pub steps : IsDone status → (i : ℕ) → i < length old / 16
      → IsUnwrapStep old_left new_left (registers_at n i texts) (registers_at n i texts') (block_at i old) (block_at i new)

-- a call that ends each plain unwrapping, with a status for each text; the first 8 bytes of a text stay
pub record EndsUnwraps (iv : List ℕ) (n : ℕ) (texts texts' : List ℕ) (left : ℕ) (old new statuses statuses' : List ℕ) (status : ℤ)
    : Type 0 where
  pub results : IsDone status ⊎ (IsBadIv status ⊎ IsBadLength status)
  pub bad_iv : IsBadIv status ↔ ¬ IsIv iv
  pub bad_length : IsBadLength status
      ↔ (IsIv iv × ¬ (AreLanes n texts old × (left ≡ 0) × (length statuses ≡ length old / 16)))
  pub kept : ¬ IsDone status → (texts' ≡ texts) × (new ≡ old) × (statuses' ≡ statuses)
  pub firsts : IsDone status → (i : ℕ) → i < length old / 16 → take 8 (part_at n i texts') ≡ take 8 (part_at n i texts)
  pub ends : IsDone status → (i : ℕ) → i < length old / 16
      → IsEnded (iv_word iv) (registers_at n i texts) (block_at i old) (registers_at n i texts') (part_at 1 i statuses')
  pub blocks_cleared : IsDone status → All (λ byte. byte ≡ 0) new
