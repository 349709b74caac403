-- The unwrappings begin with all their steps, and end with none.
use Rattle.std.proofs.Common.{rules, ◌≡◌, ℕ, length}
use Rattle.key_wrap_lanes.specs.Lanes.{part_at}
use Rattle.lane_runs.proofs.Legal.{given}
use Rattle.lane_runs.proofs.unwraps.undo_lanes.Goals as goal

pub undo_steps-requires : goal.undo_steps-requires
undo_steps-requires g c =
    let same : length c.begin_unwrap_many-begun.new.blocks ≡ length c.args.blocks.now = search rules in
    rw same c.requires

pub returns : goal.returns
returns g c = λ i below.
    let begun = c.begin_unwrap_many-begun.ensures in
    let n : ℕ = c.args.text_len in
    let same : length c.begin_unwrap_many-begun.new.blocks ≡ length c.args.blocks.now = search rules in
    let all = given begun.refused c.requires begun.all_left in
    c.undo_steps.ensures i (rw same below) (part_at n i c.args.texts.now)
    (rw all at (given begun.refused c.requires begun.begins i below (g.B.BlockPair.encrypted c.args.pair.now)))
