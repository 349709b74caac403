-- What follows each run of a rewrapping, from the state that the run ended in.
use Rattle.std.proofs.Common.{◌≡◌, inl, inr, refl, subst, Result, Bool, ℕ, ◌+◌, List, ◌++◌, length, take, drop, Ok, Err, sym, ap, ◌∙◌, ◌≤◌, arith, length-drop}
use Rattle.std.proofs.lemmas.List.{take-append-drop}
use Rattle.block_pair.specs.Pair.{AreInverse}
use Rattle.key_wrap_core.specs.declared.rewrapping.RewrapForms.{RewrapForms}
use Rattle.key_wrap_core.specs.declared.rewrapping.Rewrapped.{Rewrapped}
use Rattle.key_wrap_core.specs.declared.rewrapping.Rewrapped.TheVariants.{Fresh, AlreadyNew}
use Rattle.key_wrap_core.specs.declared.faults.Refusal.{Refusal}
use Rattle.key_wrap_core.specs.declared.faults.Refusal.TheVariants.{Integrity, KeyNotPlain}
use Rattle.key_wrap_steps.specs.declared.rewrap_steps.RewrapPhase.{RewrapPhase}
use Rattle.key_wrap_steps.specs.declared.rewrap_steps.RewrapPhase.TheVariants.{UnwrapOld, WrapOld, UnwrapNew, WrapNew}
use Rattle.key_wrap_steps.specs.declared.rewrap_steps.RewrapNext.TheVariants.{Run, Done}
use Rattle.key_wrap_core.specs.declared.agreed_form.AgreedForm.{AgreedForm}
use Rattle.key_wrap_core.specs.Words.{word_bytes}
use Rattle.key_wrap_core.specs.PaddedRegisters.{PaddedRegisters}
use Rattle.key_wrap_core.specs.BlockCalls.{block_calls}
use Rattle.key_wrap_core.specs.Steps.{WrapState, UnwrapState}
use Rattle.key_wrap_core.specs.StepCalls.{UnwrapBegun}
use Rattle.key_wrap_core.specs.Found.{IsIvAndKey}
use Rattle.key_wrap_core.specs.Rewrap.{IsFrom, IsNew, IsOldLength, IsRewrapping, to_form, to_itself}
use Rattle.key_wrap_steps.specs.RewrapPhases.{LeadsTo, EndsPhase, EndsPhaseOf, RewrapState, RewrapAt, RewrapRun, IsApplied, IsRunStep, IsRewrapMove}
use Rattle.key_wrap_core.specs.Private.{Fits, TellsKey}
use Rattle.key_wrap_core.proofs.PaddedForm.{padded_registers_forward}
use Rattle.key_wrap_core.proofs.WrapStepping.{ended_state}
use Rattle.key_wrap_steps.proofs.Runs.{climb}
use Rattle.key_wrap_core.proofs.UnwrapStepping.{unended_padded}
use Rattle.key_wrap_core.proofs.FoundForms.{found_wrapping, wrapping_found, text_legal}
use Rattle.key_wrap_core.proofs.Rewraps.{from_itself, no_old, old_of, wrapping_of}

-- a wrapping from what was unwrapped leads to the text again
again : {E : List ℕ → List ℕ} (found : ℕ) (registers block text : List ℕ) (P : List ℕ → Type 0)
    → PaddedRegisters E (word_bytes found ++ registers) text → WrapState E found registers 0 registers block
    → ((after : List ℕ) → after ≡ text → P after) → LeadsTo E P 0 registers block
again found registers block text P run state holds = record {
  iv = found;
  key = registers;
  state = state;
  ends = λ after k. holds after (padded_registers_forward k run);
}

-- what a wrapping leads to, once all its steps are done
pub led : {E : List ℕ → List ℕ} {P : List ℕ → Type 0} {t : ℕ} {registers block : List ℕ} → LeadsTo E P t registers block
    → t ≡ block_calls (8 + length registers) → P (take 8 block ++ registers)
led {registers = registers} {block = block} leads all = leads.ends (take 8 block ++ registers) (ended_state all leads.state)

-- no key was found under the old pair
pub ended_none : (pass_new : Bool) (forms : RewrapForms) (found difference : ℕ) (now block block' : List ℕ) → word_bytes found ≡ take 8 block
    → TellsKey (IsFrom forms) (word_bytes found ++ drop 8 now) difference → ¬ (difference ≡ 0)
    → ((E : List ℕ → List ℕ) → WrapState E found (drop 8 now) 0 (drop 8 now) block')
    → EndsPhase pass_new forms UnwrapOld 0 0 now now block block' (Run (WrapOld Integrity))
ended_none pass_new forms found difference now block block' value tells some first = λ text E D F G inv inv' state.
    let run = unended_padded found value state.1 in (
      (state.0, λ form from key h. tells.refuses some form from key (wrapping_found form key _ text inv run h)),
      again found (drop 8 now) block' text (λ after. after ≡ text) run (first E) (λ after e. e),
    )

-- a key was found whose length is not legal in the new form
pub ended_unfit : (pass_new : Bool) (forms : RewrapForms) (found difference misfit iv : ℕ) (now block block' : List ℕ)
    → word_bytes found ≡ take 8 block → TellsKey (IsFrom forms) (word_bytes found ++ drop 8 now) difference → difference ≡ 0
    → ((form : AgreedForm) → IsFrom forms form → (key : List ℕ) → IsIvAndKey form key (word_bytes found ++ drop 8 now)
    → Fits (to_form forms form) key (drop 8 now) misfit iv)
    → ¬ (misfit ≡ 0) → ((E : List ℕ → List ℕ) → WrapState E found (drop 8 now) 0 (drop 8 now) block')
    → EndsPhase pass_new forms UnwrapOld 0 0 now now block block' (Run (WrapOld KeyNotPlain))
ended_unfit pass_new forms found difference misfit iv now block block' value tells zero fit some first = λ text E D F G inv inv' state.
    let run = unended_padded found value state.1 in
    let held = tells.passes zero in
    let own = old_of forms text (word_bytes found ++ drop 8 now) inv (held.0, held.1, held.2, held.3, run) in (
      (held.0, held.2, own, λ legal. some ((fit held.0 held.1 held.2 held.3).fits.1 legal)),
      again found (drop 8 now) block' text (λ after. after ≡ text) run (first E) (λ after e. e),
    )

-- a key was found that fits
pub ended_fresh : (pass_new : Bool) (forms : RewrapForms) (found difference misfit iv : ℕ) (now block block' : List ℕ)
    → word_bytes found ≡ take 8 block → TellsKey (IsFrom forms) (word_bytes found ++ drop 8 now) difference → difference ≡ 0
    → ((form : AgreedForm) → IsFrom forms form → (key : List ℕ) → IsIvAndKey form key (word_bytes found ++ drop 8 now)
    → Fits (to_form forms form) key (drop 8 now) misfit iv)
    → misfit ≡ 0 → ((E : List ℕ → List ℕ) → WrapState E iv (drop 8 now) 0 (drop 8 now) block')
    → EndsPhase pass_new forms UnwrapOld 0 0 now now block block' (Run (WrapNew (Ok Fresh)))
ended_fresh pass_new forms found difference misfit iv now block block' value tells zero fit fits first = λ text E D F G inv inv' state.
    let run = unended_padded found value state.1 in
    let held = tells.passes zero in
    let own = old_of forms text (word_bytes found ++ drop 8 now) inv (held.0, held.1, held.2, held.3, run) in
    let good = fit held.0 held.1 held.2 held.3 in
    let holds = good.holds (good.fits.0 fits) in
    let new_form = to_form forms held.0 in
    record {
      iv = iv;
      key = drop 8 now;
      state = first F;
      ends = λ after k. (
        held.0,
        held.2,
        own,
        wrapping_of (to_itself forms) new_form held.2 after inv' (from_itself forms held.0 held.1)
            (found_wrapping new_form held.2 (word_bytes iv ++ drop 8 now) after holds k),
      );
    }

-- a key was found under the new pair
pub new_found : (pass_new : Bool) (forms : RewrapForms) (fault : Refusal) (found difference t : ℕ) (now block block' text : List ℕ)
    → word_bytes found ≡ take 8 block → TellsKey (IsFrom (to_itself forms)) (word_bytes found ++ drop 8 now) difference → difference ≡ 0
    → EndsPhaseOf text pass_new forms (UnwrapNew fault) 0 t now text block block' (Done (Ok AlreadyNew))
new_found pass_new forms fault found difference t now block block' text value tells zero = λ E D F G inv inv' state.
    let run = unended_padded found value state.4 in
    let held = tells.passes zero in
    let is : IsNew forms E F text = record {
      no_old = no_old forms text fault inv state.0 state.1;
      new = (held.0, held.2, old_of (to_itself forms) text (word_bytes found ++ drop 8 now) inv' (held.0, held.1, held.2, held.3, run));
    } in
    (state.2, is, refl)

-- and none
pub none_found : (pass_new : Bool) (forms : RewrapForms) (fault : Refusal) (found difference t : ℕ) (now block block' text : List ℕ)
    → word_bytes found ≡ take 8 block → TellsKey (IsFrom (to_itself forms)) (word_bytes found ++ drop 8 now) difference → ¬ (difference ≡ 0)
    → EndsPhaseOf text pass_new forms (UnwrapNew fault) 0 t now text block block' (Done (Err fault))
none_found pass_new forms fault found difference t now block block' text value tells some = λ E D F G inv inv' state.
    let run = unended_padded found value state.4 in (
      (
        state.0,
        λ pass is. tells.refuses some is.new.0 is.new.2.from is.new.1
            (wrapping_found is.new.0 is.new.1 (word_bytes found ++ drop 8 now) text inv' run is.new.2.wrapping),
      ),
      refl,
    )

-- and it is wrapped again
pub ended_new : (pass_new : Bool) (forms : RewrapForms) (fault : Refusal) (found difference : ℕ) (now block block' : List ℕ)
    → word_bytes found ≡ take 8 block → TellsKey (IsFrom (to_itself forms)) (word_bytes found ++ drop 8 now) difference → difference ≡ 0
    → ((E : List ℕ → List ℕ) → WrapState E found (drop 8 now) 0 (drop 8 now) block')
    → EndsPhase pass_new forms (UnwrapNew fault) 0 0 now now block block' (Run (WrapNew (Ok AlreadyNew)))
ended_new pass_new forms fault found difference now block block' value tells zero first = λ text E D F G inv inv' state.
    let run = unended_padded found value state.4 in
    let whole = new_found pass_new forms fault found difference 0 now block block' text value tells zero E D F G inv inv' state in
    again found (drop 8 now) block' text (IsRewrapping pass_new forms E F text (Ok AlreadyNew)) run (first F) (λ after e. (whole.0, whole.1, e))

pub ended_refused : (pass_new : Bool) (forms : RewrapForms) (fault : Refusal) (found difference : ℕ) (now block block' : List ℕ)
    → word_bytes found ≡ take 8 block → TellsKey (IsFrom (to_itself forms)) (word_bytes found ++ drop 8 now) difference → ¬ (difference ≡ 0)
    → ((E : List ℕ → List ℕ) → WrapState E found (drop 8 now) 0 (drop 8 now) block')
    → EndsPhase pass_new forms (UnwrapNew fault) 0 0 now now block block' (Run (WrapNew (Err fault)))
ended_refused pass_new forms fault found difference now block block' value tells some first = λ text E D F G inv inv' state.
    let run = unended_padded found value state.4 in
    let whole = none_found pass_new forms fault found difference 0 now block block' text value tells some E D F G inv inv' state in
    again found (drop 8 now) block' text (IsRewrapping pass_new forms E F text (Err fault)) run (first F) (λ after e. (whole.0, e))

-- what has no length that is legal in the new form is not new
pub not_new : {F G : List ℕ → List ℕ} (forms : RewrapForms) (E : List ℕ → List ℕ) (text : List ℕ) → AreInverse F G → ¬ IsOldLength (to_itself forms) (length text)
    → ¬ IsNew forms E F text
not_new forms E text inv illegal = λ is. illegal (is.new.0, is.new.2.from, text_legal is.new.0 is.new.1 text inv is.new.2.wrapping)

-- what is to be unwrapped is the text
pub begun : {E : List ℕ → List ℕ} {left : ℕ} {block : List ℕ} (text : List ℕ) → UnwrapBegun (take 8 text) left (drop 8 text) block
    → UnwrapState E text left (drop 8 text) block
begun {E = E} text w = rw (take-append-drop 8 text) at (w.begins E)

-- the number of steps over the registers
pub calls_over : (t : ℕ) (now : List ℕ) → 16 ≤ length now → t ≡ block_calls (length now) → t ≡ block_calls (8 + length (drop 8 now))
calls_over t now least all =
    let size : 8 + length (drop 8 now) ≡ length now = omega (arith, length-drop 8 now) in
    all ∙ ap block_calls (sym size)

-- a step of a run keeps its state
stepped : (E F : List ℕ → List ℕ) (pass_new : Bool) (forms : RewrapForms) (text : List ℕ) (phase : RewrapPhase) (t t' : ℕ) (now now' before block block' : List ℕ)
    → IsApplied phase E F before block → IsRunStep phase t t' (drop 8 now) (drop 8 now') block block'
    → RewrapState pass_new forms E F text phase t now before → RewrapState pass_new forms E F text phase t' now' block'
stepped E F pass_new forms text UnwrapOld t t' now now' before block block' applied step state =
    (state.0, step E text before state.1 applied)
stepped E F pass_new forms text (WrapOld fault) t t' now now' before block block' applied step state =
    let leads = state.1 in
    (state.0, record { iv = leads.iv; key = leads.key; state = step E leads.iv leads.key before leads.state applied; ends = leads.ends })
stepped E F pass_new forms text (UnwrapNew fault) t t' now now' before block block' applied step state =
    (state.0, state.1, state.2, state.3, step F text before state.4 applied)
stepped E F pass_new forms text (WrapNew outcome) t t' now now' before block block' applied step state =
    record { iv = state.iv; key = state.key; state = step F state.iv state.key before state.state applied; ends = state.ends }

moved : (E D F G : List ℕ → List ℕ) (pass_new : Bool) (forms : RewrapForms) (text : List ℕ) (s s' : RewrapAt) → AreInverse E D → AreInverse F G
    → IsRewrapMove pass_new forms E F text s s' → RewrapState pass_new forms E F text s.phase s.steps s.now s.block
    → RewrapState pass_new forms E F text s'.phase s'.steps s'.now s'.block
moved E D F G pass_new forms text s s' inv inv' (inl step) state =
    subst (λ (phase : RewrapPhase). RewrapState pass_new forms E F text phase s'.steps s'.now s'.block) (sym step.1)
    (stepped E F pass_new forms text s.phase s.steps s'.steps s.now s'.now s.block step.0 s'.block step.2 step.3 state)
moved E D F G pass_new forms text s s' inv inv' (inr call) state = call E D F G inv inv' state

-- a whole rewrapping
pub whole_rewrap : (pass_new : Bool) (forms : RewrapForms) (E D F G : List ℕ → List ℕ) (text after : List ℕ) (calls : ℕ) (at : ℕ → RewrapAt)
    (outcome : Result Rewrapped Refusal) → AreInverse E D → AreInverse F G → RewrapRun pass_new forms E F text calls at outcome after
    → IsRewrapping pass_new forms E F text outcome after
whole_rewrap pass_new forms E D F G text after calls at outcome inv inv' run =
    run.ends E D F G inv inv'
    (climb (λ (k : ℕ). RewrapState pass_new forms E F text (at k).phase (at k).steps (at k).now (at k).block) calls run.begun
    (λ k below state. moved E D F G pass_new forms text (at k) (at (k + 1)) inv inv' (run.moves k below) state))
