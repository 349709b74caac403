-- Each slot has the wrapping of its key, and the status 0.
use Rattle.std.proofs.Common.{◌≡◌, ℕ, ◌*◌, length, slice_index, refl, ap, ◌∙◌}
use Rattle.std.proofs.lemmas.List.{get_or-replicate}
use Rattle.key_wrap_core.proofs.Parts.{part_room, part_length}
use Rattle.keywrap_calls.specs.Many.{slot_at}
use Rattle.keywrap_calls.proofs.Lanes.{key_room, slot_wrapped}
use Rattle.keywrap_calls.proofs.many_lanes.wrap_side_by_side.Goals as goal

pub wrap_texts-requires-clause-room : goal.wrap_texts-requires-clause-room
wrap_texts-requires-clause-room g c = key_room c.args.form c.args.key_len c.args.len c.requires.key

pub returns : goal.returns
returns g c = λ kek legal i below.
    let n : ℕ = c.args.len in
    let count : ℕ = length c.args.statuses.now in
    let size : length (slot_at n i c.args.texts.now) ≡ n =
    part_length n (n * i) n c.args.texts.now refl (part_room n i count (length c.args.texts.now) below c.requires.slots) in
    let zero : slice_index c.fill.new.self i ≡ 0 =
    ap (λ statuses. slice_index statuses i) (c.fill.ensures.after (λ y e. e)) ∙ get_or-replicate count i 0 0 below in
    rw zero (slot_wrapped c.args.form _ kek c.args.key_len _ _ legal (rw size c.requires.key) (c.wrap_texts.ensures i below))
