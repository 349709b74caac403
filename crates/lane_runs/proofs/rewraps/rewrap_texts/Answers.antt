-- One batch after the other, each over as many texts as blocks and statuses.
use Rattle.std.proofs.Common.{rules, ◌≡◌, ℕ, ◌+◌, ◌*◌, ◌/◌, ◌-◌, ◌<◌, List, length, take, drop, min, arith, length-take, length-drop}
use Rattle.lane_runs.proofs.Batches.{PartsDone, batch_next, batch_lanes, batch_written, get_before, get_within}
use Rattle.lane_runs.proofs.Fronts.{batch_copies}
use Rattle.lane_runs.proofs.rewraps.rewrap_texts.Goals as goal

pub rewrap_batch-requires-clause-lanes : goal.rewrap_batch-requires-clause-lanes
rewrap_batch-requires-clause-lanes g c =
    let more : c.loop-batch.batch < length c.args.statuses.now / 48 + 1 = search rules in
    let long : length c.loop-batch.texts ≡ length c.args.texts.now = c.loop-batch.invariant.size in
    let lanes = batch_lanes c.args.text_len (length c.args.statuses.now) c.loop-batch.batch c.min-last.result c.loop-batch.texts c.loop-batch.blocks
    more (search rules) (rw long c.requires.whole) (search rules) in
    (c.requires.legal, lanes.0, lanes.1)

pub loop-batch-preserved : goal.loop-batch-preserved
loop-batch-preserved g c =
    let n : ℕ = c.args.text_len in
    let count : ℕ = length c.args.statuses.now in
    let batch : ℕ = c.loop-batch.batch in
    let first : ℕ = 48 * batch in
    let last : ℕ = c.min-last.result in
    let m : ℕ = last - first in
    let statuses : List ℕ = c.loop-batch.statuses in
    let more : batch < count / 48 + 1 = search rules in
    let last_is : last ≡ min count (first + 48) = search rules in
    let from : min first count ≡ first = omega (arith, more) in
    let to : first + m ≡ min (48 * (batch + 1)) count = omega (arith, more, last_is) in
    let long : length c.loop-batch.texts ≡ length c.args.texts.now = c.loop-batch.invariant.size in
    let room : length c.loop-batch.blocks ≡ 768 = search rules in
    let same_statuses : length statuses ≡ count = c.loop-batch.auto.statuses in
    let so_far : PartsDone _ n first c.args.texts.now c.loop-batch.texts = rw from at c.loop-batch.invariant in
    let some : length (take (16 * m) c.loop-batch.blocks) / 16 ≡ m = omega (arith, more, last_is, length-take (16 * m) c.loop-batch.blocks, room) in
    let statuses_now : length c.rewrap_batch.new.statuses ≡ m =
    omega (arith, c.rewrap_batch.auto.statuses, length-take (last - first) (drop first statuses), length-drop first statuses, same_statuses, last_is, more) in
    rw (← to)
    (batch_next _ (batch_written n count batch last c.loop-batch.texts c.rewrap_batch.new.texts more last_is (rw long c.requires.whole) c.rewrap_batch.auto.texts) so_far
    (λ j less x y before. rw (get_before first (last - first) j statuses c.rewrap_batch.new.statuses less (omega (arith, same_statuses, more))) before)
    (λ i inside.
    rw (get_within first (last - first) i statuses c.rewrap_batch.new.statuses (omega (arith, inside, statuses_now)) (omega (arith, same_statuses, more)))
    (c.rewrap_batch.ensures.rewrapped i (rw some inside))))

pub rewrap_batch-requires-clause-copies : goal.rewrap_batch-requires-clause-copies
rewrap_batch-requires-clause-copies g c =
    let n : ℕ = c.args.text_len in
    let count : ℕ = length c.args.statuses.now in
    let batch : ℕ = c.loop-batch.batch in
    let last : ℕ = c.min-last.result in
    let more : batch < count / 48 + 1 = search rules in
    let last_is : last ≡ min count (48 * batch + 48) = search rules in
    let long : length c.loop-batch.texts ≡ length c.args.texts.now = c.loop-batch.invariant.size in
    let room : length c.loop-batch.lanes ≡ 12672 = search rules in
    batch_copies n count batch last c.loop-batch.texts c.loop-batch.lanes more last_is (rw long c.requires.whole) c.requires.short room
