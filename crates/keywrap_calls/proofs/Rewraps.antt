-- What the rewraps promise, from what is known of the outcome.
use Rattle.std.proofs.Common.{◌≡◌, ℕ, ◌+◌, pos, List, refl, Some, Result, Ok, Err, false, ◌<◌, arith}
use Rattle.std.proofs.lemmas.Bool.Decides.{nat_tests}
use lib.IntN.{ℤ}
use Rattle.std.specs.Prelude.{IsErr}
use Rattle.key_wrap_core.specs.declared.rewrapping.Rewrapped.{Rewrapped}
use Rattle.key_wrap_core.specs.declared.faults.Refusal.{Refusal}
use Rattle.key_wrap_core.specs.declared.faults.Refusal.TheVariants.{BadLength, Integrity, KeyNotPlain}
use Rattle.key_wrap_core.specs.Rewrap.{IsRewrapping}
use Rattle.key_wrap_core.specs.declared.rewrapping.Rewrapped.TheVariants.{Fresh, AlreadyNew}
use Rattle.keywrap_calls.specs.Status.{IsDone, IsBadKek}
use Rattle.keywrap_calls.specs.Rewraps.{AreKeks, AreFlags, forms_of, passes_new, rewrap_status, already_of, Rewraps, IsInPlace, RewrapsInPlace}
use Rattle.keywrap_calls.specs.RewrapSteps.{end_status}

-- no outcome is a bad KEK
no_bad_kek : (outcome : Result Rewrapped Refusal) → ¬ IsBadKek (rewrap_status outcome)
no_bad_kek (Ok done) s = let wrong = s in cc
no_bad_kek (Err BadLength) s = let wrong = s in cc
no_bad_kek (Err Integrity) s = let wrong = s in cc
no_bad_kek (Err KeyNotPlain) s = let wrong = s in cc

refusal : (outcome : Result Rewrapped Refusal) → ¬ IsDone (rewrap_status outcome) → IsErr outcome × (already_of outcome ≡ 0)
refusal (Ok done) other = absurd (other refl)
refusal (Err fault) other = (refl, refl)

pub rewraps : (E F : List ℕ → List ℕ) (old_kek new_kek : List ℕ) (flags : ℕ) (old new : List ℕ) (outcome : Result Rewrapped Refusal)
    → AreKeks old_kek new_kek → AreFlags flags → IsRewrapping (passes_new flags) (forms_of flags) E F old outcome new
    → (IsErr outcome → new ≡ old) → Rewraps E F old_kek new_kek flags old new (already_of outcome) (rewrap_status outcome)
rewraps E F old_kek new_kek flags old new outcome keks legal told kept = record {
  bad_kek = (λ s. absurd (no_bad_kek outcome s), λ no. absurd (no keks));
  bad_flags = λ _ bad. absurd (bad legal);
  rewraps = λ _ _. (outcome, told, refl, refl);
  kept = λ no. let refused = refusal outcome no in kept refused.0;
  not_already = λ no. let refused = refusal outcome no in refused.1;
}

-- the call of version 1.0, with flags of the other call
pub in_place : (E F : List ℕ → List ℕ) (old_kek new_kek : List ℕ) (forms : ℕ) (old after new : List ℕ) (outcome : Result Rewrapped Refusal) (status : ℤ)
    → AreKeks old_kek new_kek → forms < 4 → IsRewrapping (passes_new forms) (forms_of forms) E F old outcome after
    → IsInPlace outcome after new status → ¬ IsBadKek status → RewrapsInPlace E F old_kek new_kek forms old new status
in_place E F old_kek new_kek forms old after new outcome status keks small told is other =
    let unasked : passes_new forms ≡ false = grind (arith, nat_tests) in
    record {
      bad_kek = (λ s. absurd (other s), λ no. absurd (no keks));
      kept = λ s. absurd (other s);
      bad_flags = λ _ large. absurd (large small);
      rewraps = λ _ _. (outcome, after, rw unasked at told, is);
    }

-- the byte of an outcome is its status, and 1 more for a wrapped key that was new already
pub byte_parts : (outcome : Result Rewrapped Refusal) (byte : ℕ) → end_status outcome ≡ pos byte
    → (code : ℕ) × (rewrap_status outcome ≡ pos code) × (byte ≡ code + already_of outcome)
byte_parts (Ok Fresh) byte e = (0, refl, cc)
byte_parts (Ok AlreadyNew) byte e = (0, refl, cc)
byte_parts (Err BadLength) byte e = (4, refl, cc)
byte_parts (Err Integrity) byte e = (5, refl, cc)
byte_parts (Err KeyNotPlain) byte e = (8, refl, cc)

pub ok_or_err : {A F P : Type 0} {v : A} {fault : F} → Ok v ≡ Err fault → P
ok_or_err e = cc

pub some_same : {A : Type 0} {v w : A} → Some v ≡ Some w → v ≡ w
some_same e = cc
