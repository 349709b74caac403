-- The rewrappings of many texts: what becomes of each, and of its lane before.
use Rattle.std.specs.Prelude.{◌≡◌, ◌⊎◌, ℕ, ◌<◌, ◌++◌, Bool, true, false, List, length, take, drop, Result, Ok, Err}
use Rattle.block_pair.specs.Pair.{AreInverse}
use Rattle.key_wrap_core.specs.declared.faults.Refusal.{Refusal}
use Rattle.key_wrap_core.specs.declared.faults.Refusal.TheVariants.{BadLength, Integrity, KeyNotPlain}
use Rattle.key_wrap_core.specs.declared.rewrapping.RewrapForms.{RewrapForms}
use Rattle.key_wrap_core.specs.declared.rewrapping.Rewrapped.{Rewrapped}
use Rattle.key_wrap_core.specs.declared.rewrapping.Rewrapped.TheVariants.{Fresh, AlreadyNew}
use Rattle.key_wrap_core.specs.Rewrap.{HasFault, IsOldLength, IsRewrapping}
use Rattle.key_wrap_core.specs.Steps.{UnwrapState}
use Rattle.key_wrap_lanes.specs.Lanes.{block_at, part_at}
use Rattle.key_wrap_steps.specs.declared.rewrap_steps.RewrapPhase.TheVariants.{UnwrapOld, UnwrapNew, WrapNew}
use Rattle.key_wrap_steps.specs.declared.rewrap_steps.RewrapNext.TheVariants.{Run, Done}
use Rattle.key_wrap_steps.specs.RewrapPhases.{EndsPhase, EndsPhaseOf}

-- the status of a text by its outcome: 1 if it was new already
abbrev pub rewrap_status : Result Rewrapped Refusal → ℕ
rewrap_status (Ok Fresh) = 0
rewrap_status (Ok AlreadyNew) = 1
rewrap_status (Err BadLength) = 4
rewrap_status (Err Integrity) = 5
rewrap_status (Err KeyNotPlain) = 8

-- One of many texts was rewrapped, with this status.
pub record RewrapsText (pass_new : Bool) (forms : RewrapForms) (E F : List ℕ → List ℕ) (text buffer : List ℕ) (status : ℕ) : Type 0 where
  pub result : Result Rewrapped Refusal
  pub rewraps : IsRewrapping pass_new forms E F text result buffer
  pub status_is : status ≡ rewrap_status result

-- What was unwrapped under the old pair, into a lane and its block, is refused with this status.
pub record RefusesLane (forms : RewrapForms) (lane block : List ℕ) (status : ℕ) : Type 0 where
  pub fault : Refusal
  pub status_is : status ≡ rewrap_status (Err fault)
  pub has_fault : (E D : List ℕ → List ℕ) (text : List ℕ) → AreInverse E D → IsOldLength forms (length text)
      → UnwrapState E text 0 (drop 8 lane) block → HasFault forms E text fault

-- Or its key fits, and its wrapping under the new pair begins with this lane and this block. It will end with this status.
pub record FitsLane (forms : RewrapForms) (lane block lane' block' : List ℕ) (status : ℕ) : Type 0 where
  pub outcome : Result Rewrapped Refusal
  pub status_is : status ≡ rewrap_status outcome
  pub ends_phase : (pass_new : Bool) → EndsPhase pass_new forms UnwrapOld 0 0 lane lane' block block' (Run (WrapNew outcome))

-- the one or the other
abbrev pub EndsOldLane : (forms : RewrapForms) (lane block block' : List ℕ) → Bool → (status : ℕ) → Type 0
EndsOldLane forms lane block block' true status = FitsLane forms lane block lane block' status
EndsOldLane forms lane block block' false status = RefusesLane forms lane block status

-- The same of a lane that went to this place among the first of the lanes, of which there are `wrapped`; or, at the place 48, stays.
abbrev pub PlacedLane : (forms : RewrapForms) (n : ℕ) (lane block lanes' blocks' : List ℕ) (place status wrapped : ℕ) → Type 0
PlacedLane forms n lane block lanes' blocks' place status wrapped =
    ((place < wrapped) × FitsLane forms lane block (part_at n place lanes') (block_at place blocks') status)
    ⊎ ((place ≡ 48) × RefusesLane forms lane block status)

-- What was unwrapped under the new pair is new, or is refused for its integrity: the status.
pub record PassesLane (forms : RewrapForms) (lane block : List ℕ) (status : ℕ) : Type 0 where
  pub outcome : Result Rewrapped Refusal
  pub status_is : status ≡ rewrap_status outcome
  pub block' : List ℕ
  pub ends_phase : (pass_new : Bool) (text : List ℕ) → EndsPhaseOf text pass_new forms (UnwrapNew Integrity) 0 0 lane text block block' (Done outcome)

-- What a lane leaves of its text: at a place among those that were wrapped, the first bytes of the block and the registers there.
pub record PutsLane (n : ℕ) (lanes blocks : List ℕ) (place wrapped : ℕ) (text text' : List ℕ) : Type 0 where
  pub put : place < wrapped → text' ≡ take 8 (block_at place blocks) ++ drop 8 (part_at n place lanes)
  pub kept : ¬ (place < wrapped) → text' ≡ text

-- A text that may be new already is at a place among the lanes. No other text has a place.
pub record GathersText (n : ℕ) (text lanes : List ℕ) (old_place place status tried : ℕ) : Type 0 where
  pub gathered : old_place ≡ 48 → ¬ (status ≡ 8) → (place < tried) × (part_at n place lanes ≡ text)
  pub placed : ¬ (old_place ≡ 48) → place ≡ 48
  pub unfit : status ≡ 8 → place ≡ 48

-- The status of a text by its place among the lanes that were unwrapped under the new pair.
pub record EndsPassing (forms : RewrapForms) (n : ℕ) (lanes blocks : List ℕ) (place tried status status' : ℕ) : Type 0 where
  pub passes : place < tried → PassesLane forms (part_at n place lanes) (block_at place blocks) status'
  pub kept : ¬ (place < tried) → status' ≡ status

-- The status of a text: a refused text has the outcome of its rewrapping, which leaves it as it is.
pub record PassesText (pass_new : Bool) (forms : RewrapForms) (F : List ℕ → List ℕ) (text : List ℕ) (place status status' : ℕ) : Type 0 where
  pub placed : ¬ (place ≡ 48) → status' ≡ status
  pub refused : place ≡ 48 → (fault : Refusal) → status ≡ rewrap_status (Err fault) → (E D : List ℕ → List ℕ) → AreInverse E D
      → HasFault forms E text fault → RewrapsText pass_new forms E F text text status'
