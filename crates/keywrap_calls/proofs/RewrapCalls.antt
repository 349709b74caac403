-- Each call of a rewrapping keeps the state of its phase, and the last one ends it.
use Rattle.std.proofs.Common.{◌≡◌, inl, inr, refl, sym, subst, ℕ, zero, suc, ◌+◌, ◌%◌, ◌/◌, ◌<◌, ◌==◌, if◌then◌else◌, Bool, true, false, List, length, Option, Some, None, Result, Ok, Err, arith}
use Rattle.std.proofs.lemmas.Bool.Decides.{nat_tests}
use lib.IntN.{ℤ}
use Rattle.block_pair.specs.Pair.{AreInverse}
use Rattle.key_wrap_core.specs.declared.agreed_form.AgreedForm.{AgreedForm}
use Rattle.key_wrap_core.specs.declared.agreed_form.AgreedForm.TheVariants.{Plain, Padded}
use Rattle.key_wrap_core.specs.declared.rewrapping.RewrapForms.{RewrapForms}
use Rattle.key_wrap_core.specs.declared.rewrapping.Rewrapped.{Rewrapped}
use Rattle.key_wrap_core.specs.declared.faults.Refusal.{Refusal}
use Rattle.key_wrap_steps.specs.declared.rewrap_steps.RewrapPhase.{RewrapPhase}
use Rattle.key_wrap_steps.specs.declared.rewrap_steps.RewrapPhase.TheVariants.{UnwrapOld, WrapOld, UnwrapNew, WrapNew}
use Rattle.key_wrap_steps.specs.declared.rewrap_steps.RewrapNext.{RewrapNext}
use Rattle.key_wrap_steps.specs.declared.rewrap_steps.RewrapNext.TheVariants.{Run, Done}
use Rattle.key_wrap_core.specs.Lengths.{IsPaddedTextLength}
use Rattle.key_wrap_core.specs.Forms.{IsTextLengthAs}
use Rattle.key_wrap_core.specs.Rewrap.{IsRewrapping}
use Rattle.key_wrap_steps.specs.RewrapPhases.{CanBegin, RewrapState, RewrapGoes}
use Rattle.std.specs.Prelude.{IsErr}
use Rattle.keywrap_calls.specs.Status.{IsDone}
use Rattle.keywrap_calls.specs.Rewraps.{AreFlags, AreKeks, Rewraps, forms_of, passes_new, already_of, rewrap_status}
use Rattle.keywrap_calls.specs.RewrapSteps.{HasEnded, ReportsNext, end_status, outcome_at, phase_at, phase_with}
use Rattle.keywrap_calls.specs.RewrapCalls.{CallAt, MakesStep, MakesNext, IsRewrapCall, RewrapCalls}
use Rattle.keywrap_calls.proofs.Rewraps.{rewraps}

-- the two lowest bits of the number of a phase
abbrev bits_of : RewrapPhase → ℕ
bits_of UnwrapOld = 1
bits_of (WrapOld fault) = 0
bits_of (UnwrapNew fault) = 3
bits_of (WrapNew outcome) = 2

ok_bits : (b : Bool) (bits : ℕ) (done : Rewrapped) (phase : RewrapPhase) → (b ≡ true → bits ≡ 2)
    → (if b then Some (WrapNew (Ok done)) else None) ≡ Some phase → bits ≡ bits_of phase
ok_bits true bits done phase means e =
    let same : WrapNew (Ok done) ≡ phase = cc in
    subst (λ (p : RewrapPhase). bits ≡ bits_of p) same (means refl)
ok_bits false bits done phase means e = absurd (let wrong = e in cc)

err_bits : (b0 b2 b3 : Bool) (bits : ℕ) (fault : Refusal) (phase : RewrapPhase) → (b0 ≡ true → bits ≡ 0) → (b2 ≡ true → bits ≡ 2) → (b3 ≡ true → bits ≡ 3)
    → (if b0 then Some (WrapOld fault) else (if b2 then Some (WrapNew (Err fault)) else (if b3 then Some (UnwrapNew fault) else None))) ≡ Some phase
    → bits ≡ bits_of phase
err_bits true b2 b3 bits fault phase zeros two three e =
    let same : WrapOld fault ≡ phase = cc in
    subst (λ (p : RewrapPhase). bits ≡ bits_of p) same (zeros refl)
err_bits false true b3 bits fault phase zeros two three e =
    let same : WrapNew (Err fault) ≡ phase = cc in
    subst (λ (p : RewrapPhase). bits ≡ bits_of p) same (two refl)
err_bits false false true bits fault phase zeros two three e =
    let same : UnwrapNew fault ≡ phase = cc in
    subst (λ (p : RewrapPhase). bits ≡ bits_of p) same (three refl)
err_bits false false false bits fault phase zeros two three e = absurd (let wrong = e in cc)

with_bits : (bits : ℕ) (outcome : Option (Result Rewrapped Refusal)) (phase : RewrapPhase) → phase_with bits outcome ≡ Some phase → bits ≡ bits_of phase
with_bits bits None phase e = absurd (let wrong = e in cc)
with_bits bits (Some (Ok done)) phase e = ok_bits (bits == 2) bits done phase (λ h. grind (arith, nat_tests)) e
with_bits bits (Some (Err fault)) phase e =
    err_bits (bits == 0) (bits == 2) (bits == 3) bits fault phase (λ h. grind (arith, nat_tests)) (λ h. grind (arith, nat_tests)) (λ h. grind (arith, nat_tests)) e

number_bits : (b : Bool) (number : ℕ) (phase : RewrapPhase) → (b ≡ true → number ≡ 1)
    → (if b then Some UnwrapOld else phase_with (number % 4) (outcome_at (number / 4))) ≡ Some phase → number % 4 ≡ bits_of phase
number_bits true number phase means e =
    let same : UnwrapOld ≡ phase = cc in
    let one : number % 4 ≡ 1 = omega (arith, means refl) in
    subst (λ (p : RewrapPhase). number % 4 ≡ bits_of p) same one
number_bits false number phase means e = with_bits (number % 4) (outcome_at (number / 4)) phase e

at_bits : (number : ℕ) (phase : RewrapPhase) → phase_at number ≡ Some phase → number % 4 ≡ bits_of phase
at_bits number phase e = number_bits (number == 1) number phase (λ h. grind (arith, nat_tests)) e

-- a step keeps the state of the phase
stepped : (E F : List ℕ → List ℕ) (pass_new : Bool) (forms : RewrapForms) (text : List ℕ) (phase : RewrapPhase) (s s' : CallAt) (block : List ℕ) (status : ℤ)
    → IsDone status → MakesStep E F (bits_of phase) s block s' status → RewrapState pass_new forms E F text phase s.steps s.now s.block
    → RewrapState pass_new forms E F text phase s'.steps s'.now s'.block
stepped E F pass_new forms text UnwrapOld s s' block status done step state = (state.0, step.1.steps done E text s.block state.1 step.0)
stepped E F pass_new forms text (WrapOld fault) s s' block status done step state =
    let leads = state.1 in
    (state.0, record { iv = leads.iv; key = leads.key; state = step.1.steps done E leads.iv leads.key s.block leads.state step.0; ends = leads.ends })
stepped E F pass_new forms text (UnwrapNew fault) s s' block status done step state =
    (state.0, state.1, state.2, state.3, step.1.steps done F text s.block state.4 step.0)
stepped E F pass_new forms text (WrapNew outcome) s s' block status done step state =
    record { iv = state.iv; key = state.key; state = step.1.steps done F state.iv state.key s.block state.state step.0; ends = state.ends }

-- a length with which a rewrapping can begin is legal in the padded form
form_length : (form : AgreedForm) (len : ℕ) → IsTextLengthAs form len → IsPaddedTextLength len
form_length (Plain iv) len legal = (legal.0, omega (arith, legal.1), legal.2)
form_length Padded len legal = legal

can_length : (pass_new : Bool) (forms : RewrapForms) (len : ℕ) → CanBegin pass_new forms len → IsPaddedTextLength len
can_length pass_new forms len (inl old) = form_length old.0 len old.2
can_length pass_new forms len (inr new) = form_length new.1.0 len new.1.2

-- a call between two runs leads to what comes next
continued : (E D F G : List ℕ → List ℕ) (flags : ℕ) (text : List ℕ) (phase : RewrapPhase) (s s' : CallAt) (status : ℤ) → AreInverse E D → AreInverse F G
    → AreFlags flags → IsPaddedTextLength (length text) → length s.now ≡ length text → phase_at s.number ≡ Some phase → MakesNext flags text s s' status
    → RewrapState (passes_new flags) (forms_of flags) E F text phase s.steps s.now s.block
    → (next : RewrapNext) × ReportsNext next s'.number status × RewrapGoes (passes_new flags) (forms_of flags) E F text next s'.steps s'.now s'.block
continued E D F G flags text phase s s' status inv inv' legal size same at made state =
    let ended : HasEnded flags phase s.number s.steps (length s.now) = (legal, at, subst IsPaddedTextLength (sym same) size, made.none_left phase at) in
    elim made.call [
      | inl t ↦ let found = t.ends_phase phase ended in (found.0, found.1, found.3 text E D F G inv inv' state)
      | inr t ↦ let found = t.ends_phase phase ended (sym same) in (found.0, found.1, found.3 E D F G inv inv' state)
    ]

-- between two calls the rewrapping is in the state of its phase
abbrev IsState : (E F : List ℕ → List ℕ) (flags : ℕ) (text : List ℕ) → CallAt → Type 0
IsState E F flags text s =
    (phase : RewrapPhase) × (phase_at s.number ≡ Some phase) × RewrapState (passes_new flags) (forms_of flags) E F text phase s.steps s.now s.block

next_state : (E F : List ℕ → List ℕ) (flags : ℕ) (text : List ℕ) (s : CallAt) (next : RewrapNext) (status : ℤ) → ¬ (s.number ≡ 0)
    → ReportsNext next s.number status → RewrapGoes (passes_new flags) (forms_of flags) E F text next s.steps s.now s.block → IsState E F flags text s
next_state E F flags text s (Run phase) status some tells goes = (phase, tells.0, goes)
next_state E F flags text s (Done outcome) status some tells goes = absurd (some tells.0)

moved : (E D F G : List ℕ → List ℕ) (flags : ℕ) (text : List ℕ) (s s' : CallAt) → AreInverse E D → AreInverse F G → AreFlags flags
    → IsPaddedTextLength (length text) → length s.now ≡ length text → IsRewrapCall E F flags text s s' → IsState E F flags text s → IsState E F flags text s'
moved E D F G flags text s s' inv inv' legal size same (inl step) state =
    let bits : s.number % 4 ≡ bits_of state.0 = at_bits s.number state.0 state.1 in (
      state.0,
      subst (λ (n : ℕ). phase_at n ≡ Some state.0) (sym step.3) state.1,
      stepped E F (passes_new flags) (forms_of flags) text state.0 s s' step.0 step.1 step.2
          (subst (λ (n : ℕ). MakesStep E F n s step.0 s' step.1) bits step.4) state.2,
    )
moved E D F G flags text s s' inv inv' legal size same (inr next) state =
    let found = continued E D F G flags text state.0 s s' next.0 inv inv' legal size same state.1 next.2 state.2 in
    next_state E F flags text s' found.0 next.0 next.1 found.1 found.2

-- what holds first, and is kept, holds last
climbed : (S : ℕ → Type 0) (n : ℕ) → S 0 → ((t : ℕ) → t < n → S t → S (t + 1)) → S n
climbed S zero start step = start
climbed S (suc n) start step =
    let next : n + 1 ≡ suc n = omega arith in
    subst S next (step n (omega arith) (climbed S n start (λ t below. step t (omega arith))))

-- without a phase the rewrapping has ended
last_state : (E F : List ℕ → List ℕ) (flags : ℕ) (text : List ℕ) (s : CallAt) (next : RewrapNext) (status : ℤ) → s.number ≡ 0
    → ReportsNext next s.number status → RewrapGoes (passes_new flags) (forms_of flags) E F text next s.steps s.now s.block
    → (outcome : Result Rewrapped Refusal) × (status ≡ end_status outcome) × IsRewrapping (passes_new flags) (forms_of flags) E F text outcome s.now
last_state E F flags text s (Run phase) status none tells goes =
    let at : phase_at 0 ≡ Some phase = subst (λ (n : ℕ). phase_at n ≡ Some phase) none tells.0 in absurd (let wrong = at in cc)
last_state E F flags text s (Done outcome) status none tells goes = (outcome, tells.1, goes)

kept_by : (pass_new : Bool) (forms : RewrapForms) (E F : List ℕ → List ℕ) (text after : List ℕ) (outcome : Result Rewrapped Refusal)
    → IsRewrapping pass_new forms E F text outcome after → IsErr outcome → after ≡ text
kept_by pass_new forms E F text after (Ok done) is e = absurd (let wrong = e in cc)
kept_by pass_new forms E F text after (Err fault) is e = is.1

-- all calls together
pub whole_calls : (E D F G : List ℕ → List ℕ) (old_kek new_kek : List ℕ) (flags : ℕ) (text : List ℕ) (calls : ℕ) (at : ℕ → CallAt) (last : CallAt) (status : ℤ)
    → AreInverse E D → AreInverse F G → AreKeks old_kek new_kek → AreFlags flags → CanBegin (passes_new flags) (forms_of flags) (length text)
    → RewrapCalls E F flags text calls at last status
    → (outcome : Result Rewrapped Refusal) × (status ≡ end_status outcome)
    × Rewraps E F old_kek new_kek flags text last.now (already_of outcome) (rewrap_status outcome)
whole_calls E D F G old_kek new_kek flags text calls at last status inv inv' keks legal can made =
    let size = can_length (passes_new flags) (forms_of flags) (length text) can in
    let first = made.begins.begins made.begun in
    let start : IsState E F flags text (at 0) = (
      first.0,
      first.1,
      subst (λ (now : List ℕ). RewrapState (passes_new flags) (forms_of flags) E F text first.0 (at 0).steps now (at 0).block)
          (sym made.start) (first.2 E F),
    ) in
    let state = climbed (λ (k : ℕ). IsState E F flags text (at k)) calls start
    (λ k below held. moved E D F G flags text (at k) (at (k + 1)) inv inv' legal size (made.sizes k) (made.moves k below) held) in
    let found = continued E D F G flags text state.0 (at calls) last status inv inv' legal size (made.sizes calls) state.1 made.ends state.2 in
    let end = last_state E F flags text last found.0 status made.no_phase found.1 found.2 in (
      end.0,
      end.1,
      rewraps E F old_kek new_kek flags text last.now end.0 keks legal end.2
          (kept_by (passes_new flags) (forms_of flags) E F text last.now end.0 end.2),
    )
