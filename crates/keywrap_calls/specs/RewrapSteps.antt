-- The promises of the calls that make a rewrapping run by run: `old` is a buffer or a number before the call, `new` after it. E
-- is the old permutation of blocks and F the new one. The caller applies one of them to the block before each step.
use Rattle.std.specs.Prelude.{◌≡◌, ◌↔◌, ◌⊎◌, ℕ, ℤ, pos, ◌/◌, ◌%◌, List, length, Option, Some, None, Result, Ok, Err, ◌==◌, if◌then◌else◌}
use Rattle.block_pair.specs.Pair.{AreInverse}
use Rattle.key_wrap_core.specs.declared.rewrapping.Rewrapped.{Rewrapped}
use Rattle.key_wrap_core.specs.declared.rewrapping.Rewrapped.TheVariants.{Fresh, AlreadyNew}
use Rattle.key_wrap_core.specs.declared.faults.Refusal.{Refusal}
use Rattle.key_wrap_core.specs.declared.faults.Refusal.TheVariants.{BadLength, Integrity, KeyNotPlain}
use Rattle.key_wrap_steps.specs.declared.rewrap_steps.RewrapPhase.{RewrapPhase}
use Rattle.key_wrap_steps.specs.declared.rewrap_steps.RewrapPhase.TheVariants.{UnwrapOld, WrapOld, UnwrapNew, WrapNew}
use Rattle.key_wrap_steps.specs.declared.rewrap_steps.RewrapNext.{RewrapNext}
use Rattle.key_wrap_steps.specs.declared.rewrap_steps.RewrapNext.TheVariants.{Run, Done}
use Rattle.key_wrap_core.specs.Lengths.{IsPaddedTextLength}
use Rattle.key_wrap_core.specs.Rewrap.{IsRewrapping}
use Rattle.key_wrap_steps.specs.RewrapPhases.{CanBegin, RewrapState, EndsPhase, EndsPhaseOf, GoesOn, phase_end, phase_start}
use Rattle.keywrap_calls.specs.Status.{IsDone, IsBadLength}
use Rattle.keywrap_calls.specs.Rewraps.{AreFlags, forms_of, passes_new}

-- the outcome of a status at the end of a rewrapping: 1 for a wrapped key that was new already
abbrev pub outcome_at : ℕ → Option (Result Rewrapped Refusal)
outcome_at status =
    if status == 0 then Some (Ok Fresh)
    else (if status == 1 then Some (Ok AlreadyNew)
    else (if status == 4 then Some (Err BadLength)
    else (if status == 5 then Some (Err Integrity)
    else (if status == 8 then Some (Err KeyNotPlain)
    else None))))

abbrev pub end_status : Result Rewrapped Refusal → ℤ
end_status (Ok Fresh) = pos 0
end_status (Ok AlreadyNew) = pos 1
end_status (Err BadLength) = pos 4
end_status (Err Integrity) = pos 5
end_status (Err KeyNotPlain) = pos 8

-- The phase of this operation, with this outcome. Bit 0: the block is decrypted, and a step undone. Bit 1: under the new permutation.
abbrev pub phase_with : (operation : ℕ) → Option (Result Rewrapped Refusal) → Option RewrapPhase
phase_with operation None = None
phase_with operation (Some (Ok done)) = if operation == 2 then Some (WrapNew (Ok done)) else None
phase_with operation (Some (Err fault)) =
    if operation == 0 then Some (WrapOld fault)
    else (if operation == 2 then Some (WrapNew (Err fault))
    else (if operation == 3 then Some (UnwrapNew fault)
    else None))

-- The phase that a number means. From bit 2 on it is the status that the rewrapping will end with, as far as it is known.
abbrev pub phase_at : ℕ → Option RewrapPhase
phase_at number = if number == 1 then Some UnwrapOld else phase_with (number % 4) (outcome_at (number / 4))

-- the number and the status report what follows a run: 0 is the number of no phase
abbrev pub ReportsNext : RewrapNext → (number : ℕ) (status : ℤ) → Type 0
ReportsNext (Run phase) number status = (phase_at number ≡ Some phase) × IsDone status
ReportsNext (Done outcome) number status = (number ≡ 0) × (status ≡ end_status outcome)

-- a call that begins a rewrapping
pub record BeginsRewrap (flags : ℕ) (text : List ℕ) (number old_steps new_steps : ℕ) (old_block new_block : List ℕ) (status : ℤ) : Type 0 where
  pub statuses : IsDone status ⊎ IsBadLength status
  pub bad_length : IsBadLength status ↔ ¬ (AreFlags flags × CanBegin (passes_new flags) (forms_of flags) (length text))
  pub kept : ¬ IsDone status → (number ≡ 0) × (new_steps ≡ old_steps) × (new_block ≡ old_block)
  pub begins : IsDone status → (phase : RewrapPhase) × (phase_at number ≡ Some phase)
      × ((E F : List ℕ → List ℕ) → RewrapState (passes_new flags) (forms_of flags) E F text phase new_steps text new_block)
      × (new_steps ≡ phase_start phase (length text))
  pub refuses : ¬ IsDone status → AreFlags flags → (E D F G : List ℕ → List ℕ) → AreInverse E D → AreInverse F G
      → IsRewrapping (passes_new flags) (forms_of flags) E F text (Err BadLength) text

-- a run of this phase over a text of this length has ended
abbrev pub HasEnded : (flags : ℕ) (phase : RewrapPhase) (number steps len : ℕ) → Type 0
HasEnded flags phase number steps len = AreFlags flags × (phase_at number ≡ Some phase) × IsPaddedTextLength len × (steps ≡ phase_end phase len)

-- a call that ends a run and begins the next one, or ends the rewrapping
pub record ContinuesRewrap (flags number number' : ℕ) (old new : List ℕ) (old_steps new_steps : ℕ) (old_block new_block : List ℕ) (status : ℤ)
    : Type 0 where
  pub ends_phase : (phase : RewrapPhase) → HasEnded flags phase number old_steps (length old) → (next : RewrapNext) × ReportsNext next number' status
      × GoesOn phase next new_steps (length old) × EndsPhase (passes_new flags) (forms_of flags) phase old_steps new_steps old new old_block new_block next
  pub refused : ((phase : RewrapPhase) → ¬ HasEnded flags phase number old_steps (length old)) → IsBadLength status × (number' ≡ 0)
      × (new ≡ old) × (new_steps ≡ old_steps) × (new_block ≡ old_block)

-- the same with a copy of the text, of which a refused text is restored
pub record ContinuesRewrapFrom (flags : ℕ) (copy : List ℕ) (number number' : ℕ) (old new : List ℕ) (old_steps new_steps : ℕ) (old_block new_block : List ℕ)
    (status : ℤ) : Type 0 where
  pub ends_phase : (phase : RewrapPhase) → HasEnded flags phase number old_steps (length old) → length copy ≡ length old
      → (next : RewrapNext) × ReportsNext next number' status × GoesOn phase next new_steps (length old)
      × EndsPhaseOf copy (passes_new flags) (forms_of flags) phase old_steps new_steps old new old_block new_block next
  pub refused : ((phase : RewrapPhase) → ¬ (HasEnded flags phase number old_steps (length old) × (length copy ≡ length old)))
      → IsBadLength status × (number' ≡ 0) × (new ≡ old) × (new_steps ≡ old_steps) × (new_block ≡ old_block)
