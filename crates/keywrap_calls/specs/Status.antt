-- The statuses of the calls. Each is a number here too, so that a changed constant of status.rt is refused.
use Rattle.std.specs.Prelude.{◌≡◌, ◌⊎◌, ℤ, pos, Result, Ok, Err}
use Rattle.key_wrap_core.specs.declared.faults.InPlaceFault.{InPlaceFault}
use Rattle.key_wrap_core.specs.declared.faults.InPlaceFault.TheVariants.{BadLength, Integrity}

-- the call succeeded
abbrev pub IsDone : ℤ → Type 0
IsDone status = status ≡ pos 0

-- the initial value is refused for its length, or is reserved for the padded form
abbrev pub IsBadIv : ℤ → Type 0
IsBadIv status = status ≡ pos 2

-- the key-encryption key (KEK) is refused for its length
abbrev pub IsBadKek : ℤ → Type 0
IsBadKek status = status ≡ pos 3

-- another length is not legal
abbrev pub IsBadLength : ℤ → Type 0
IsBadLength status = status ≡ pos 4

-- the integrity check failed: the text is not a wrapping
abbrev pub IsIntegrity : ℤ → Type 0
IsIntegrity status = status ≡ pos 5

-- the statuses of a wrapping call
abbrev pub IsWrapStatus : ℤ → Type 0
IsWrapStatus status = IsDone status ⊎ (IsBadKek status ⊎ IsBadLength status)

-- the statuses of an unwrapping call
abbrev pub IsUnwrapStatus : ℤ → Type 0
IsUnwrapStatus status = IsWrapStatus status ⊎ IsIntegrity status

-- the status of a refusal
abbrev pub fault_status : InPlaceFault → ℤ
fault_status BadLength = pos 4
fault_status Integrity = pos 5

-- the status of an outcome
abbrev pub outcome_status : {A : Type 0} → Result A InPlaceFault → ℤ
outcome_status (Ok _) = pos 0
outcome_status (Err fault) = fault_status fault
