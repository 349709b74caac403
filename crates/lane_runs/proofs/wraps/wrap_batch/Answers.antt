-- In the plain form the key is all that follows the first 8 bytes.
use Rattle.std.proofs.Common.{◌≡◌, ℕ, ◌*◌, ◌/◌, List, length, take, drop, refl, arith, length-drop}
use Rattle.std.proofs.lemmas.List.{take_all}
use Rattle.key_wrap_core.proofs.Parts.{part_room, part_length}
use Rattle.key_wrap_lanes.specs.Lanes.{part_at}
use Rattle.lane_runs.proofs.wraps.wrap_batch.Goals as goal

pub returns-in-Plain : goal.returns-in-Plain
returns-in-Plain g c = λ i below.
    let n : ℕ = c.args.text_len in
    let text : List ℕ = part_at n i c.args.texts.now in
    let room = rw c.in-Plain.is at c.requires.room in
    let size : length text ≡ n =
    part_length n (n * i) n c.args.texts.now refl (part_room n i (length c.args.blocks.now / 16) (length c.args.texts.now) below c.requires.lanes.2) in
    let whole : take c.args.key_len (drop 8 text) ≡ drop 8 text = take_all c.args.key_len (drop 8 text) (omega (arith, length-drop 8 text, size, room.1)) in
    rw (c.in-Plain.is, whole, ← c.default.ensures) (c.wrap_lanes.ensures i below)
