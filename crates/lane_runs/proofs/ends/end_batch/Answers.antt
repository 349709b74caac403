-- One lane after the other.
use Rattle.std.proofs.Common.{rules, ◌≡◌, ◌≢◌, ◌+◌, ◌*◌, ◌/◌, ◌-◌, ◌≤◌, ◌<◌, ℕ, List, length, arith, ◌∙◌, get_or-set_other, get_or-set_same}
use Rattle.key_wrap_lanes.proofs.Parts.{text_writes}
use Rattle.lane_runs.proofs.Batches.{lane_next, none_done}
use Rattle.lane_runs.proofs.ends.end_batch.Goals as goal

pub loop-lane-init : goal.loop-lane-init
loop-lane-init c = none_done _ _ _

pub loop-lane-preserved : goal.loop-lane-preserved
loop-lane-preserved c =
    let n : ℕ = c.args.text_len in
    let i : ℕ = c.loop-lane.lane in
    let texts : List ℕ = c.loop-lane.texts in
    let same : length texts ≡ length c.args.texts.now = c.loop-lane.invariant.size in
    let same_lens : length c.loop-lane.key_lens ≡ length c.args.key_lens.now = c.loop-lane.auto.key_lens in
    let same_statuses : length c.loop-lane.statuses ≡ length c.args.statuses.now = c.loop-lane.auto.statuses in
    let test : i < length c.args.statuses.now = c.loop-lane-test.true in
    let each = c.requires.statuses in
    let lens = c.requires.lens in
    let below : i < length c.args.blocks.now / 16 = omega arith in
    let in_lens : i < length c.loop-lane.key_lens = omega arith in
    let in_statuses : i < length c.loop-lane.statuses = omega arith in
    let sixteen : 16 * i + 16 - 16 * i ≡ 16 = omega arith in
    lane_next _
    (text_writes n i (length c.args.blocks.now / 16) texts c.end_lane-status.new.text c.end_lane-status.auto.text below (same ∙ c.requires.lanes.2))
    c.loop-lane.invariant
    (λ j less x y before. let apart : j ≢ i = omega arith in
    rw (get_or-set_other c.loop-lane.key_lens i j c.end_lane-status.result.1 0 apart, get_or-set_other c.loop-lane.statuses i j c.end_lane-status.result.0 0 apart) before)
    (rw (get_or-set_same c.loop-lane.key_lens i c.end_lane-status.result.1 0 in_lens, get_or-set_same c.loop-lane.statuses i c.end_lane-status.result.0 0 in_statuses)
    (rw sixteen at c.end_lane-status.ensures))

pub returns : goal.returns
returns c = λ i below.
    let each = c.requires.statuses in
    let end : length c.args.statuses.now ≤ c.loop-lane.lane = search rules in
    c.loop-lane.invariant.done i (omega (arith, below, end))
