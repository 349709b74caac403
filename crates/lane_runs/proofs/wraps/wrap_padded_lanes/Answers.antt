-- The wrappings begin with no step done, and end with all of them.
use Rattle.std.proofs.Common.{rules, ◌≡◌, ℕ, ◌+◌, ◌-◌, ◌*◌, ◌/◌, List, length, take, refl, sym, subst, arith, length-drop, length-take}
use Rattle.key_wrap_core.specs.BlockCalls.{block_calls}
use Rattle.key_wrap_core.specs.Lengths.{IsPaddedKeyLength}
use Rattle.key_wrap_core.specs.Padded.{aiv, padded}
use Rattle.key_wrap_core.specs.Steps.{WrapState}
use Rattle.key_wrap_core.proofs.Parts.{part_room, part_length}
use Rattle.key_wrap_lanes.specs.Lanes.{AreLanes, registers_at, part_at, block_at}
use Rattle.lane_runs.proofs.Legal.{given}
use Rattle.lane_runs.proofs.wraps.wrap_padded_lanes.Goals as goal

pub returns : goal.returns
returns g c = λ i below.
    let E = g.B.BlockPair.encrypted c.args.pair.now in
    let n : ℕ = c.args.text_len in
    let m : ℕ = c.args.key_len in
    let ended = c.end_wrap_many-ended.ensures in
    let back : 8 + (n - 8) ≡ n = omega (arith, c.requires.lanes.0.1) in
    let all : c.step_count-all.result ≡ block_calls n = rw back at c.step_count-all.ensures in
    let long : length c.make_steps.new.texts ≡ length c.args.texts.now = search rules in
    let same : length c.pad_lanes.new.blocks ≡ length c.args.blocks.now = search rules in
    let after : length c.make_steps.new.blocks ≡ length c.args.blocks.now = search rules in
    let lanes : AreLanes n c.make_steps.new.texts c.make_steps.new.blocks = rw (after, long) c.requires.lanes in
    let registers : List ℕ = registers_at n i c.args.texts.now in
    let key : List ℕ = take m registers in
    let part : length (part_at n i c.args.texts.now) ≡ n =
    part_length n (n * i) n c.args.texts.now refl (part_room n i (length c.args.blocks.now / 16) (length c.args.texts.now) below c.requires.lanes.2) in
    let dropped : length registers ≡ n - 8 = rw part at (length-drop 8 (part_at n i c.args.texts.now)) in
    let size : length key ≡ m = omega (arith, length-take m registers, dropped, c.requires.room.1) in
    let legal : IsPaddedKeyLength (length key) = rw size c.requires.room.0 in
    let last = subst (λ (k : ℕ). WrapState E (aiv k) (padded key) (block_calls n) (registers_at n i c.make_steps.new.texts) (block_at i c.make_steps.new.blocks))
    (sym size) (c.make_steps.ensures i (rw same below) _ _ (c.pad_lanes.ensures i below E)) in
    given ended.refused (lanes, all) ended.padded i (rw after below) E key legal (rw all last)
