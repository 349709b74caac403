-- A rewrapping by the calls for one step and between two runs, with an AES outside: what they give together.
use Rattle.std.specs.Prelude.{◌≡◌, ◌⊎◌, ℕ, zero, suc, ℤ, ◌+◌, ◌<◌, ◌%◌, List, length, drop, Some}
use Rattle.key_wrap_steps.specs.declared.rewrap_steps.RewrapPhase.{RewrapPhase}
use Rattle.key_wrap_steps.specs.RewrapPhases.{phase_end}
use Rattle.keywrap_calls.specs.Status.{IsDone}
use Rattle.keywrap_calls.specs.StepPromises.{StepsWrap, StepsUnwrap}
use Rattle.keywrap_calls.specs.RewrapSteps.{BeginsRewrap, ContinuesRewrap, ContinuesRewrapFrom, phase_at}

-- What a caller has between two calls: the number of the phase, the number of steps, the buffer and the block.
pub record CallAt : Type 0 where
  pub number : ℕ
  pub steps : ℕ
  pub now : List ℕ
  pub block : List ℕ

-- The caller did what the two lowest bits of the number ask for, under E or F, and made the step or undid it.
abbrev pub MakesStep : (E F : List ℕ → List ℕ) → (bits : ℕ) → CallAt → (block : List ℕ) → CallAt → ℤ → Type 0
MakesStep E F zero s block s' status =
    (block ≡ E s.block) × StepsWrap (drop 8 s.now) (drop 8 s'.now) s.steps s'.steps block s'.block status
MakesStep E F (suc zero) s block s' status =
    (E block ≡ s.block) × StepsUnwrap (drop 8 s.now) (drop 8 s'.now) s.steps s'.steps block s'.block status
MakesStep E F (suc (suc zero)) s block s' status =
    (block ≡ F s.block) × StepsWrap (drop 8 s.now) (drop 8 s'.now) s.steps s'.steps block s'.block status
MakesStep E F (suc (suc (suc _))) s block s' status =
    (F block ≡ s.block) × StepsUnwrap (drop 8 s.now) (drop 8 s'.now) s.steps s'.steps block s'.block status

-- The caller made the call between two runs, with or without a copy of the text, once all steps of the run were made or undone.
pub record MakesNext (flags : ℕ) (text : List ℕ) (s s' : CallAt) (status : ℤ) : Type 0 where
  pub none_left : (phase : RewrapPhase) → phase_at s.number ≡ Some phase → s.steps ≡ phase_end phase (length s.now)
  pub call : ContinuesRewrap flags s.number s'.number s.now s'.now s.steps s'.steps s.block s'.block status
      ⊎ ContinuesRewrapFrom flags text s.number s'.number s.now s'.now s.steps s'.steps s.block s'.block status

-- one call after another, before the last one
abbrev pub IsRewrapCall : (E F : List ℕ → List ℕ) (flags : ℕ) (text : List ℕ) → CallAt → CallAt → Type 0
IsRewrapCall E F flags text s s' =
    ((block : List ℕ) × (status : ℤ) × IsDone status × (s'.number ≡ s.number) × MakesStep E F (s.number % 4) s block s' status)
    ⊎ ((status : ℤ) × ¬ (s'.number ≡ 0) × MakesNext flags text s s' status)

-- A whole rewrapping of the text: it is begun, each of its calls is a step or ends a run, and the last one leaves no phase.
pub record RewrapCalls (E F : List ℕ → List ℕ) (flags : ℕ) (text : List ℕ) (calls : ℕ) (at : ℕ → CallAt) (last : CallAt) (status : ℤ)
    : Type 0 where
  pub old_steps : ℕ
  pub old_block : List ℕ
  pub begin_status : ℤ
  pub begins : BeginsRewrap flags text (at 0).number old_steps (at 0).steps old_block (at 0).block begin_status
  pub begun : IsDone begin_status
  pub start : (at 0).now ≡ text
  pub sizes : (k : ℕ) → length (at k).now ≡ length text
  pub moves : (k : ℕ) → k < calls → IsRewrapCall E F flags text (at k) (at (k + 1))
  pub ends : MakesNext flags text (at calls) last status
  pub no_phase : last.number ≡ 0
