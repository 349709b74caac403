-- The length is legal, so nothing is refused.
use Rattle.std.proofs.Common.{◌≡◌, ◌+◌, ◌-◌, ℕ, List, length, take, drop, arith, ap, ◌∙◌, length-drop}
use Rattle.std.proofs.lemmas.List.{take_all}
use Rattle.key_wrap_core.specs.InPlace.{IsPaddedRoom}
use Rattle.key_wrap_core.proofs.InPlaceForm.{registers_now}
use Rattle.lane_runs.proofs.Legal.{given}
use Rattle.lane_runs.proofs.wraps.pad_lane.Goals as goal

pub returns : goal.returns
returns c = λ E.
    let text : List ℕ = c.args.text.now in
    let m : ℕ = c.args.key_len in
    let w = c.begin_wrap_padded-begun.ensures in
    let room = c.requires.room in
    let rest : take (length text - 8) (drop 8 text) ≡ drop 8 text = take_all (length text - 8) (drop 8 text) (omega (arith, length-drop 8 text)) in
    let whole : 8 + length (drop 8 text) ≡ length text = omega (arith, length-drop 8 text, room.1) in
    let legal : IsPaddedRoom m (8 + length (take (length text - 8) (drop 8 text))) = rw (rest, whole) room in
    let begun = given w.refused legal w.begins in
    let kept : length c.begin_wrap_padded-begun.new.registers ≡ length text - 8 =
    c.begin_wrap_padded-begun.auto.registers ∙ ap length rest ∙ length-drop 8 text in
    let now = registers_now text c.begin_wrap_padded-begun.new.registers (omega (arith, room.1)) kept in
    rw (now, c.copy_from_slice.ensures.after) (rw rest at (begun.begins E))
