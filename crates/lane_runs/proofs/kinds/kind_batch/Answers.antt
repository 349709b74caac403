-- No step is left of any text, so each is ended.
use Rattle.std.proofs.Common.{rules, ◌≡◌, ℕ, ◌*◌, ◌/◌, length, refl, sym, ◌∙◌}
use Rattle.key_wrap_core.proofs.Parts.{part_room, part_length}
use Rattle.key_wrap_lanes.specs.Lanes.{part_at}
use Rattle.lane_runs.proofs.kinds.kind_batch.Goals as goal

pub undo_lanes-requires : goal.undo_lanes-requires
undo_lanes-requires g c = rw c.copy_from_slice.ensures.after c.requires.lanes

pub end_kinds-requires-clause-lanes : goal.end_kinds-requires-clause-lanes
end_kinds-requires-clause-lanes g c =
    let long : length c.undo_lanes.new.texts ≡ length c.args.texts.now = search rules in
    let same : length c.undo_lanes.new.blocks ≡ length c.args.blocks.now = search rules in
    rw (same, long) c.requires.lanes

pub returns-clause-found : goal.returns-clause-found
returns-clause-found g c = λ i below.
    let E = g.B.BlockPair.encrypted c.args.pair.now in
    let D = g.B.BlockPair.decrypted c.args.pair.now in
    let n : ℕ = c.args.text_len in
    let count : ℕ = length c.args.blocks.now / 16 in
    let long : length c.undo_lanes.new.texts ≡ length c.args.texts.now = search rules in
    let same : length c.undo_lanes.new.blocks ≡ length c.args.blocks.now = search rules in
    let before : length (part_at n i c.args.texts.now) ≡ n =
    part_length n (n * i) n c.args.texts.now refl (part_room n i count (length c.args.texts.now) below c.requires.lanes.2) in
    let after : length (part_at n i c.undo_lanes.new.texts) ≡ n =
    part_length n (n * i) n c.undo_lanes.new.texts refl (part_room n i count (length c.undo_lanes.new.texts) below (long ∙ c.requires.lanes.2)) in
    c.end_kinds.ensures i (rw same below) E D (part_at n i c.args.texts.now) (g.met.B.BlockPair.lawful c.args.pair.now) (before ∙ sym after)
    (rw c.copy_from_slice.ensures.after at (c.undo_lanes.ensures i below))
