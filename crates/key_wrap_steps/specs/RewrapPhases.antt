-- A rewrapping as a sequence of runs of the steps, for two permutations outside the program: which run is under way, and what it
-- will leave. E is the old one and F the new one.
use Rattle.std.specs.Prelude.{◌≡◌, ◌⊎◌, Bool, true, ℕ, ◌+◌, ◌-◌, ◌<◌, ⊤, List, ◌++◌, length, take, drop, Result}
use Rattle.key_wrap_core.specs.declared.rewrapping.RewrapForms.{RewrapForms}
use Rattle.key_wrap_core.specs.declared.rewrapping.Rewrapped.{Rewrapped}
use Rattle.key_wrap_core.specs.declared.faults.Refusal.{Refusal}
use Rattle.key_wrap_core.specs.declared.faults.Refusal.TheVariants.{KeyNotPlain}
use Rattle.key_wrap_steps.specs.declared.rewrap_steps.RewrapPhase.{RewrapPhase}
use Rattle.key_wrap_steps.specs.declared.rewrap_steps.RewrapPhase.TheVariants.{UnwrapOld, WrapOld, UnwrapNew, WrapNew}
use Rattle.key_wrap_steps.specs.declared.rewrap_steps.RewrapNext.{RewrapNext}
use Rattle.key_wrap_steps.specs.declared.rewrap_steps.RewrapNext.TheVariants.{Run, Done}
use Rattle.block_pair.specs.Pair.{AreInverse}
use Rattle.key_wrap_core.specs.Words.{word_bytes}
use Rattle.key_wrap_core.specs.PaddedRegisters.{PaddedRegisters}
use Rattle.key_wrap_core.specs.BlockCalls.{block_calls}
use Rattle.key_wrap_core.specs.Steps.{WrapState, UnwrapState}
use Rattle.key_wrap_core.specs.StepCalls.{IsWrapStep, IsUnwrapStep, UnwrapBegun}
use Rattle.key_wrap_core.specs.Rewrap.{IsOldLength, HasFault, IsRewrapping, to_itself}

-- A wrapping of which t steps are done will end in a text of which P holds.
pub record LeadsTo (E : List ℕ → List ℕ) (P : List ℕ → Type 0) (t : ℕ) (registers block : List ℕ) : Type 0 where
  pub iv : ℕ
  pub key : List ℕ
  pub state : WrapState E iv key t registers block
  pub ends : (after : List ℕ) → PaddedRegisters E (word_bytes iv ++ key) after → P after

-- A rewrapping of the text is in this phase: t steps of its run are done, or are left to undo, and the buffer is `now`, of
-- which the registers are all but the first 8 bytes.
--   UnwrapOld          the text is being unwrapped under E
--   WrapOld fault      the text is refused, and is being restored under E
--   UnwrapNew fault    the text, which is refused under E, is being unwrapped under F, to see whether it is new already
--   WrapNew outcome    the buffer will be what it is after a rewrapping with this outcome
abbrev pub RewrapState : Bool → RewrapForms → (E F : List ℕ → List ℕ) (text : List ℕ) → RewrapPhase → (t : ℕ) (now block : List ℕ) → Type 0
RewrapState pass_new forms E F text UnwrapOld t now block = IsOldLength forms (length text) × UnwrapState E text t (drop 8 now) block
RewrapState pass_new forms E F text (WrapOld fault) t now block = HasFault forms E text fault × LeadsTo E (λ after. after ≡ text) t (drop 8 now) block
RewrapState pass_new forms E F text (UnwrapNew fault) t now block = HasFault forms E text fault × ¬ (fault ≡ KeyNotPlain) × (pass_new ≡ true)
    × IsOldLength (to_itself forms) (length text) × UnwrapState F text t (drop 8 now) block
RewrapState pass_new forms E F text (WrapNew outcome) t now block = LeadsTo F (IsRewrapping pass_new forms E F text outcome) t (drop 8 now) block

-- the text has a length that is legal in one of the old forms, or, where what is new already is passed, in the new form
abbrev pub CanBegin : Bool → RewrapForms → ℕ → Type 0
CanBegin pass_new forms len = IsOldLength forms len ⊎ ((pass_new ≡ true) × IsOldLength (to_itself forms) len)

-- the number of steps that are done or left at the end of a run over a text of this length
abbrev pub phase_end : RewrapPhase → ℕ → ℕ
phase_end UnwrapOld len = 0
phase_end (WrapOld fault) len = block_calls len
phase_end (UnwrapNew fault) len = 0
phase_end (WrapNew outcome) len = block_calls len

-- and at its start
abbrev pub phase_start : RewrapPhase → ℕ → ℕ
phase_start phase len = block_calls len - phase_end phase len

-- The unwrapping of the text is begun: all its steps are left, and this is the first block.
pub record BeginsText (text : List ℕ) (steps : ℕ) (block : List ℕ) : Type 0 where
  pub begun : UnwrapBegun (take 8 text) steps (drop 8 text) block
  pub all : steps ≡ block_calls (length text)

-- what follows a run: another one, which is begun, or the end of the rewrapping
abbrev pub RewrapGoes : Bool → RewrapForms → (E F : List ℕ → List ℕ) (text : List ℕ) → RewrapNext → (t : ℕ) (now block : List ℕ) → Type 0
RewrapGoes pass_new forms E F text (Run phase) t now block = RewrapState pass_new forms E F text phase t now block
RewrapGoes pass_new forms E F text (Done outcome) t now block = IsRewrapping pass_new forms E F text outcome now

-- the place of a phase in a rewrapping: what follows a run has a higher one, so that no phase comes twice
abbrev pub phase_rank : RewrapPhase → ℕ
phase_rank UnwrapOld = 0
phase_rank (WrapOld fault) = 1
phase_rank (UnwrapNew fault) = 2
phase_rank (WrapNew outcome) = 3

-- what follows a run over a text of this length: a run of a later phase, of which all steps are to do, or the end
abbrev pub GoesOn : RewrapPhase → RewrapNext → (steps len : ℕ) → Type 0
GoesOn phase (Run later) steps len = (phase_rank phase < phase_rank later) × (steps ≡ phase_start later len)
GoesOn phase (Done outcome) steps len = ⊤

-- the promise of the call between two runs of the rewrapping of this text, for every two permutations
abbrev pub EndsPhaseOf : (text : List ℕ) → Bool → RewrapForms → RewrapPhase → (t t' : ℕ) (now now' block block' : List ℕ) → RewrapNext → Type 0
EndsPhaseOf text pass_new forms phase t t' now now' block block' next = (E D F G : List ℕ → List ℕ) → AreInverse E D → AreInverse F G
    → RewrapState pass_new forms E F text phase t now block → RewrapGoes pass_new forms E F text next t' now' block'

-- and of that which knows no text, but only the buffer
abbrev pub EndsPhase : Bool → RewrapForms → RewrapPhase → (t t' : ℕ) (now now' block block' : List ℕ) → RewrapNext → Type 0
EndsPhase pass_new forms phase t t' now now' block block' next =
    (text : List ℕ) → EndsPhaseOf text pass_new forms phase t t' now now' block block' next

-- the operation of a phase took the block before to this one
abbrev pub IsApplied : RewrapPhase → (E F : List ℕ → List ℕ) → (before block : List ℕ) → Type 0
IsApplied UnwrapOld E F before block = E block ≡ before
IsApplied (WrapOld fault) E F before block = block ≡ E before
IsApplied (UnwrapNew fault) E F before block = F block ≡ before
IsApplied (WrapNew outcome) E F before block = block ≡ F before

-- a step of a run, made or undone, as the calls for one step promise it
abbrev pub IsRunStep : RewrapPhase → (t t' : ℕ) (registers registers' block block' : List ℕ) → Type 0
IsRunStep UnwrapOld t t' registers registers' block block' = IsUnwrapStep t t' registers registers' block block'
IsRunStep (WrapOld fault) t t' registers registers' block block' = IsWrapStep t t' registers registers' block block'
IsRunStep (UnwrapNew fault) t t' registers registers' block block' = IsUnwrapStep t t' registers registers' block block'
IsRunStep (WrapNew outcome) t t' registers registers' block block' = IsWrapStep t t' registers registers' block block'

-- What a caller has between two calls: the phase, the number of steps, the buffer and the block.
pub record RewrapAt : Type 0 where
  pub phase : RewrapPhase
  pub steps : ℕ
  pub now : List ℕ
  pub block : List ℕ

-- one call after another: a step, for which the block was encrypted or decrypted, or the call between two runs
abbrev pub IsRewrapMove : Bool → RewrapForms → (E F : List ℕ → List ℕ) (text : List ℕ) → RewrapAt → RewrapAt → Type 0
IsRewrapMove pass_new forms E F text s s' =
    ((block : List ℕ) × (s'.phase ≡ s.phase) × IsApplied s.phase E F s.block block
    × IsRunStep s.phase s.steps s'.steps (drop 8 s.now) (drop 8 s'.now) block s'.block)
    ⊎ EndsPhaseOf text pass_new forms s.phase s.steps s'.steps s.now s'.now s.block s'.block (Run s'.phase)

-- A whole rewrapping of the text, by what the caller has after each of its calls: it is begun, each call is a step or ends a run,
-- and the last one ends it with this outcome, and with this buffer.
pub record RewrapRun (pass_new : Bool) (forms : RewrapForms) (E F : List ℕ → List ℕ) (text : List ℕ) (calls : ℕ) (at : ℕ → RewrapAt)
    (outcome : Result Rewrapped Refusal) (after : List ℕ) : Type 0 where
  pub begun : RewrapState pass_new forms E F text (at 0).phase (at 0).steps (at 0).now (at 0).block
  pub moves : (k : ℕ) → k < calls → IsRewrapMove pass_new forms E F text (at k) (at (k + 1))
  pub t : ℕ
  pub block : List ℕ
  pub ends : EndsPhaseOf text pass_new forms (at calls).phase (at calls).steps t (at calls).now after (at calls).block block (Done outcome)
