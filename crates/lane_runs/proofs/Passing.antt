-- The status of a text that was refused under the old pair.
use Rattle.std.proofs.Common.{◌≡◌, ℕ, Bool, true, false, List, length, drop, refl, sym, ◌∙◌, Err, arith}
use Rattle.block_pair.specs.Pair.{AreInverse}
use Rattle.key_wrap_core.specs.declared.faults.Refusal.{Refusal}
use Rattle.key_wrap_core.specs.declared.faults.Refusal.TheVariants.{BadLength, Integrity, KeyNotPlain}
use Rattle.key_wrap_core.specs.declared.rewrapping.RewrapForms.{RewrapForms}
use Rattle.key_wrap_core.specs.Lengths.{IsPlainTextLength}
use Rattle.key_wrap_core.specs.Rewrap.{HasFault}
use Rattle.key_wrap_core.specs.Steps.{UnwrapState}
use Rattle.lane_runs.specs.Rewraps.{PassesLane, RewrapsText, rewrap_status}
use Rattle.lane_runs.proofs.Fronts.{old_legal, itself_legal}

-- it is not looked at under the new pair
pub not_passed : {E F : List ℕ → List ℕ} {forms : RewrapForms} {text : List ℕ} {status : ℕ} (fault : Refusal) → status ≡ rewrap_status (Err fault)
    → HasFault forms E text fault → RewrapsText false forms E F text text status
not_passed fault is has = record { result = Err fault; rewraps = ((has, λ pass. absurd (let wrong = pass in cc)), refl); status_is = is }

-- it is: unless its key does not fit, its lane was unwrapped under the new pair
pub passed : {E D F G : List ℕ → List ℕ} {pass_new : Bool} {forms : RewrapForms} {text : List ℕ} {status' : ℕ} (status : ℕ) → AreInverse E D → AreInverse F G
    → IsPlainTextLength (length text) → pass_new ≡ true → (status ≡ 8 → status' ≡ status)
    → (¬ (status ≡ 8) → (lane : List ℕ) × (block : List ℕ) × PassesLane forms lane block status' × UnwrapState F text 0 (drop 8 lane) block)
    → (fault : Refusal) → status ≡ rewrap_status (Err fault) → HasFault forms E text fault → RewrapsText pass_new forms E F text text status'
passed {forms = forms} {text = text} status inv inv' legal pass unfit passes BadLength is has = absurd (has (old_legal forms (length text) legal))
passed status inv inv' legal pass unfit passes KeyNotPlain is has = record {
  result = Err KeyNotPlain;
  rewraps = ((has, λ pass new. new.no_old has.0 has.2.from has.1 has.2.wrapping), refl);
  status_is = unfit is ∙ is;
}
passed {E = E} {D = D} {F = F} {G = G} {pass_new = pass_new} {forms = forms} {text = text} status inv inv' legal pass unfit passes Integrity is has =
    let other : ¬ (status ≡ 8) = λ e. absurd (omega (arith, e, is)) in
    let lane = passes other in
    record {
      result = lane.2.outcome;
      rewraps = lane.2.ends_phase pass_new text E D F G inv inv' (has, λ e. absurd (let wrong = e in cc), pass, itself_legal forms (length text) legal, lane.3);
      status_is = lane.2.status_is;
    }
