-- The step of each lane, in its part of the two buffers.
use Rattle.std.proofs.Common.{rules, ◌≡◌, ◌/◌, ◌≤◌, ◌<◌, ℕ, List, length, arith, ◌∙◌}
use Rattle.key_wrap_lanes.proofs.Parts.{text_writes, block_writes, part_next}
use Rattle.key_wrap_lanes.proofs.stepping.step_lanes.Goals as goal

pub loop-lane-preserved : goal.loop-lane-preserved
loop-lane-preserved c =
    let n : ℕ = c.args.text_len in
    let i : ℕ = c.loop-lane.lane in
    let texts : List ℕ = c.loop-lane.texts in
    let blocks : List ℕ = c.loop-lane.blocks in
    let same : length texts ≡ length c.args.texts.now = c.loop-lane.auto.texts in
    let same' : length blocks ≡ length c.args.blocks.now = c.loop-lane.auto.blocks in
    let below : i < length c.args.blocks.now / 16 = c.loop-lane-test.true in
    part_next c.loop-lane.invariant
    (text_writes n i (length c.args.blocks.now / 16) texts c.step_lane.new.text c.step_lane.auto.text below (same ∙ c.requires.lanes.2))
    (block_writes i blocks c.step_lane.new.block c.step_lane.auto.block (omega arith)) c.step_lane.ensures

pub returns : goal.returns
returns c = λ j below.
    let end : length c.args.blocks.now / 16 ≤ c.loop-lane.lane = search rules in c.loop-lane.invariant.changed j (omega (arith, below))
