-- The length is legal and no step is left, so the call decides.
use Rattle.std.proofs.Common.{◌≡◌, ◌-◌, ℕ, List, length, take, drop, Err, refl, arith, length-drop}
use Rattle.std.proofs.lemmas.List.{take_all}
use Rattle.key_wrap_core.specs.declared.faults.InPlaceFault.TheVariants.{BadLength}
use Rattle.key_wrap_core.proofs.InPlaceForm.{registers_now}
use Rattle.key_wrap_lanes.proofs.LaneSteps.{ended}
use Rattle.key_wrap_lanes.proofs.unwrap_many.end_lane.Goals as goal

pub returns-clause-ends : goal.returns-clause-ends
returns-clause-ends c =
    let text : List ℕ = c.args.text.now in
    let w = c.end_unwrap-ended.ensures in
    let legal = c.requires.legal in
    let rest : take (length text - 8) (drop 8 text) ≡ drop 8 text = take_all (length text - 8) (drop 8 text) (omega (arith, length-drop 8 text)) in
    let size : length (drop 8 text) ≡ length text - 8 = length-drop 8 text in
    let now = registers_now text c.end_unwrap-ended.new.registers (omega arith) (omega (arith, length-drop 8 text)) in
    let good = λ (e : c.end_unwrap-ended.result ≡ Err BadLength). w.bad_length.0 e ((rw (rest, size) (omega arith, omega arith, omega arith)), refl) in
    rw now (ended c.end_unwrap-ended.result c.lane_status.result c.copy_from_slice-2.ensures.after good c.lane_status.ensures.done
    c.lane_status.ensures.refused w.refused.cleared (rw (rest, c.copy_from_slice.ensures.after) at w.answer))
