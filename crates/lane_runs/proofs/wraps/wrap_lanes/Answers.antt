-- The wrappings begin with no step done, and end with all of them.
use Rattle.std.proofs.Common.{rules, ◌≡◌, ℕ, ◌+◌, ◌-◌, ◌*◌, ◌/◌, List, length, refl, arith, length-drop}
use Rattle.key_wrap_core.specs.BlockCalls.{block_calls}
use Rattle.key_wrap_core.specs.Lengths.{IsPlainKeyLength}
use Rattle.key_wrap_core.proofs.Parts.{part_room, part_length}
use Rattle.key_wrap_lanes.specs.Lanes.{AreLanes, registers_at, part_at}
use Rattle.lane_runs.proofs.Legal.{given}
use Rattle.lane_runs.proofs.wraps.wrap_lanes.Goals as goal

pub make_steps-requires : goal.make_steps-requires
make_steps-requires g c =
    let same : length c.begin_wrap_many-begun.new.blocks ≡ length c.args.blocks.now = search rules in
    rw same c.requires

pub returns : goal.returns
returns g c = λ i below.
    let E = g.B.BlockPair.encrypted c.args.pair.now in
    let n : ℕ = c.args.text_len in
    let begun = c.begin_wrap_many-begun.ensures in
    let ended = c.end_wrap_many-ended.ensures in
    let back : 8 + (n - 8) ≡ n = omega (arith, c.requires.0.1) in
    let all : c.step_count-all.result ≡ block_calls n = rw back at c.step_count-all.ensures in
    let long : length c.make_steps.new.texts ≡ length c.args.texts.now = search rules in
    let same : length c.begin_wrap_many-begun.new.blocks ≡ length c.args.blocks.now = search rules in
    let after : length c.make_steps.new.blocks ≡ length c.args.blocks.now = search rules in
    let lanes : AreLanes n c.make_steps.new.texts c.make_steps.new.blocks = rw (after, long) c.requires in
    let key : List ℕ = registers_at n i c.args.texts.now in
    let size : length (part_at n i c.args.texts.now) ≡ n =
    part_length n (n * i) n c.args.texts.now refl (part_room n i (length c.args.blocks.now / 16) (length c.args.texts.now) below c.requires.2) in
    let dropped : length key ≡ n - 8 = rw size at (length-drop 8 (part_at n i c.args.texts.now)) in
    let legal : IsPlainKeyLength (length key) =
    (omega (arith, dropped, c.requires.0.0, c.requires.0.1), omega (arith, dropped, c.requires.0.1), omega (arith, dropped, c.requires.0.2)) in
    let first = given begun.refused c.requires begun.begins i below E in
    let last = c.make_steps.ensures i (rw same below) c.args.iv.now key first in
    given ended.refused (lanes, all) ended.plain i (rw after below) E c.args.iv.now key legal (rw all last)
