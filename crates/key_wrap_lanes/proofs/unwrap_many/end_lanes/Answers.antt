-- The end of each lane, in its part of the buffers.
use Rattle.std.proofs.Common.{rules, ◌≡◌, ◌+◌, ◌*◌, ◌/◌, ◌-◌, ◌≤◌, ◌<◌, ℕ, List, length, arith, ◌∙◌}
use Rattle.key_wrap_core.proofs.Parts.{Writes, part_length}
use Rattle.key_wrap_lanes.proofs.Parts.{text_writes, part_next}
use Rattle.key_wrap_lanes.proofs.unwrap_many.end_lanes.Goals as goal

pub loop-lane-preserved : goal.loop-lane-preserved
loop-lane-preserved c =
    let n : ℕ = c.args.text_len in
    let i : ℕ = c.loop-lane.lane in
    let texts : List ℕ = c.loop-lane.texts in
    let statuses : List ℕ = c.loop-lane.statuses in
    let same : length texts ≡ length c.args.texts.now = c.loop-lane.auto.texts in
    let same' : length statuses ≡ length c.args.statuses.now = c.loop-lane.auto.statuses in
    let test : i < length c.args.statuses.now = c.loop-lane-test.true in
    let each = c.requires.each in
    let below : i < length c.args.blocks.now / 16 = omega arith in
    let sixteen : 16 * i + 16 - 16 * i ≡ 16 = omega arith in
    let one : i + 1 - i ≡ 1 = omega arith in
    let status : Writes 1 i i (i + 1 - i) statuses c.end_lane.new.status = record {
      place = omega arith;
      whole = one;
      size = c.end_lane.auto.status ∙ part_length 1 i (i + 1 - i) statuses one (omega arith);
      room = omega arith;
    } in
    part_next c.loop-lane.invariant
    (text_writes n i (length c.args.blocks.now / 16) texts c.end_lane.new.text c.end_lane.auto.text below (same ∙ c.requires.lanes.2)) status
    (record { first = c.end_lane.ensures.first; ends = rw sixteen at c.end_lane.ensures.ends })

pub returns-clause-firsts : goal.returns-clause-firsts
returns-clause-firsts c = λ j below.
    let each = c.requires.each in
    let end : length c.args.statuses.now ≤ c.loop-lane.lane = search rules in (c.loop-lane.invariant.changed j (omega (arith, below))).first

pub returns-clause-ends : goal.returns-clause-ends
returns-clause-ends c = λ j below.
    let each = c.requires.each in
    let end : length c.args.statuses.now ≤ c.loop-lane.lane = search rules in (c.loop-lane.invariant.changed j (omega (arith, below))).ends
