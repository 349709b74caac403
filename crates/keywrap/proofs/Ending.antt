-- How the program ends, from the result of a call.
use Rattle.std.proofs.Common.{◌≡◌, ◌≢◌, ◌⊎◌, ℕ, Result, Ok, Err, MatchResult, IfErr, IfOk, sym, subst, inl, inr}
use Rattle.keywrap_cli.specs.Faults.{program_status}
use Rattle.keywrap_cli.specs.declared.fault.ProgramFault.{ProgramFault}
use Rattle.keywrap.specs.Program.{EndsByFault}

-- two facts about the status of a result
pub both_ok : (A B : ℕ → Type 0) (done : Result ℕ ProgramFault) → IfOk done A → IfOk done B → IfOk done (λ status. A status × B status)
both_ok A B (Ok status) a b = (a, b)
both_ok A B (Err fault) a b = tt

-- the program ends with the status of the result, or by its fault
pub ends_by : (Done : ℕ → Type 0) (Cause : ProgramFault → Type 0) (done : Result ℕ ProgramFault) (status : ℕ) → IfOk done Done → IfErr done Cause
    → MatchResult done (λ own. status ≡ own) (λ fault. (status ≡ program_status fault) × (status ≢ 0)) → Done status ⊎ EndsByFault Cause status
ends_by Done Cause (Ok own) status is_done cause ends = inl (subst Done (sym ends) is_done)
ends_by Done Cause (Err fault) status is_done cause ends = inr (fault, cause, ends.0, ends.1)
