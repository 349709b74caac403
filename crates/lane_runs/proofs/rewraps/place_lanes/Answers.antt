-- One lane after the other.
use Rattle.std.proofs.Common.{◌≡◌, ◌+◌, ◌*◌, ◌/◌, ◌-◌, ◌≤◌, ◌<◌, ℕ, List, length, arith, ◌∙◌, slice_set, get_or-set_other, get_or-set_same}
use Rattle.key_wrap_core.proofs.Parts.{part_written, part_kept}
use Rattle.key_wrap_lanes.specs.Lanes.{part_at, block_at}
use Rattle.key_wrap_lanes.proofs.Parts.{block_writes}
use Rattle.lane_runs.specs.Rewraps.{FitsLane, RefusesLane}
use Rattle.lane_runs.proofs.Placing.{Sets, lane_fits, lane_refused, none_placed}
use Rattle.lane_runs.proofs.rewraps.place_lanes.Goals as goal
use Rattle.lane_runs.proofs.rewraps.place_lanes.Goals.{then-fits, else-fits}

-- a number that was written
sets : (i v : ℕ) (xs : List ℕ) → i < length xs → Sets i v xs (slice_set xs i v)
sets i v xs inside = record {
  own = get_or-set_same xs i v 0 inside;
  other = λ j apart. get_or-set_other xs i j v 0 apart;
}

pub loop-lane-init : goal.loop-lane-init
loop-lane-init c = none_placed _ _ _ _ _ _

pub loop-lane-preserved : goal.loop-lane-preserved
loop-lane-preserved c =
    let n : ℕ = c.args.text_len in
    let i : ℕ = c.loop-lane.lane in
    let lanes : List ℕ = c.loop-lane.lanes in
    let blocks : List ℕ = c.loop-lane.blocks in
    let places : List ℕ = c.loop-lane.places in
    let statuses : List ℕ = c.loop-lane.statuses in
    let wrapped : ℕ = c.loop-lane.wrapped in
    let block' : List ℕ = c.end_old_lane-fits.new.block in
    let status : ℕ = c.end_old_lane-fits.result.1 in
    let test : i < length c.args.statuses.now = c.loop-lane-test.true in
    let each : length c.args.statuses.now ≡ length c.args.blocks.now / 16 = c.requires.statuses in
    let same_blocks : length blocks ≡ length c.args.blocks.now = c.loop-lane.auto.blocks in
    let same_places : length places ≡ length c.args.places.now = c.loop-lane.auto.places in
    let same_statuses : length statuses ≡ length c.args.statuses.now = c.loop-lane.auto.statuses in
    let few : length c.args.blocks.now ≤ 768 = c.requires.few in
    let below : i < 48 = omega (arith, test, each, few) in
    let in_blocks : 16 * i + 16 ≤ length blocks = omega (arith, test, each, same_blocks) in
    let in_places : i < length places = omega (arith, test, each, same_places, c.requires.places) in
    let in_statuses : i < length statuses = omega (arith, test, same_statuses) in
    let sixteen : 16 * i + 16 - 16 * i ≡ 16 = omega arith in
    let whole : n * i + n - n * i ≡ n = omega arith in
    let written = block_writes i blocks block' c.end_old_lane-fits.auto.block in_blocks in
    elim c.if-fits.branch [
      | then-fits w ↦
          let fits : FitsLane c.args.forms.now (part_at n i lanes) (block_at i blocks) (part_at n i lanes) block' status =
          rw (whole, sixteen) at (rw w.if-fits.true at c.end_old_lane-fits.ensures) in
          rw (w.lanes-is, w.blocks-is, w.places-is, w.wrapped-is)
          (lane_fits c.loop-lane.invariant below w.move_part.auto.parts (sets i wrapped places in_places) (sets i status statuses in_statuses) w.move_part.ensures.moved w.move_part.ensures.kept
          (w.move_part-then-fits.ensures.moved ∙ part_written written)
          (λ j apart other. w.move_part-then-fits.ensures.kept j apart ∙ part_kept j written other) fits)
      | else-fits w ↦
          let refused : RefusesLane c.args.forms.now (part_at n i lanes) (block_at i blocks) status =
          rw (whole, sixteen) at (rw w.if-fits.false at c.end_old_lane-fits.ensures) in
          rw (w.lanes-is, w.blocks-is, w.places-is, w.wrapped-is)
          (lane_refused c.loop-lane.invariant (sets i 48 places in_places) (sets i status statuses in_statuses) (λ j other. part_kept j written other) refused)
    ]

pub shape_of-lanes : goal.shape_of-lanes
shape_of-lanes c = c.loop-lane.invariant.size
