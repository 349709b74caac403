-- Each slot has what was found of it.
use Rattle.std.proofs.Common.{◌≡◌, ℕ, ◌+◌, ◌*◌, length, refl, arith}
use Rattle.key_wrap_core.specs.Lengths.{IsPaddedTextLength}
use Rattle.key_wrap_core.proofs.Parts.{part_room, part_length}
use Rattle.keywrap_calls.specs.Many.{slot_at}
use Rattle.keywrap_calls.proofs.LaneKinds.{slot_found}
use Rattle.keywrap_calls.proofs.many_lanes.kind_side_by_side.Goals as goal

pub returns-clause-finds : goal.returns-clause-finds
returns-clause-finds g c = λ kek legal i below.
    let n : ℕ = length c.args.scratch.now + 8 in
    let count : ℕ = length c.args.statuses.now in
    let size : length (slot_at n i c.args.texts.now) ≡ n =
    part_length n (n * i) n c.args.texts.now refl (part_room n i count (length c.args.texts.now) below c.requires.slots) in
    let padded : IsPaddedTextLength n = (c.requires.legal.0, omega (arith, c.requires.legal.1), c.requires.legal.2) in
    slot_found _ kek (slot_at n i c.args.texts.now) (length c.args.scratch.now) _ _ _ legal size (rw size padded) (c.kind_texts.ensures i below)
