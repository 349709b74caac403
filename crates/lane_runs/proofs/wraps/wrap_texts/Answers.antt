-- One batch after the other, each over as many texts as blocks.
use Rattle.std.proofs.Common.{rules, ◌≡◌, ℕ, ◌+◌, ◌*◌, ◌/◌, ◌-◌, ◌<◌, length, take, min, arith, length-take}
use Rattle.lane_runs.proofs.Batches.{PartsDone, batch_next, batch_lanes, batch_written}
use Rattle.lane_runs.proofs.wraps.wrap_texts.Goals as goal

pub wrap_batch-requires-clause-lanes : goal.wrap_batch-requires-clause-lanes
wrap_batch-requires-clause-lanes g c =
    let more : c.loop-batch.batch < c.args.count / 48 + 1 = search rules in
    let long : length c.loop-batch.texts ≡ length c.args.texts.now = c.loop-batch.invariant.size in
    let lanes = batch_lanes c.args.text_len c.args.count c.loop-batch.batch c.min-last.result c.loop-batch.texts c.loop-batch.blocks
    more (search rules) (rw long c.requires.whole) (search rules) in
    (c.requires.legal, lanes.0, lanes.1)

pub loop-batch-preserved : goal.loop-batch-preserved
loop-batch-preserved g c =
    let n : ℕ = c.args.text_len in
    let count : ℕ = c.args.count in
    let batch : ℕ = c.loop-batch.batch in
    let first : ℕ = 48 * batch in
    let last : ℕ = c.min-last.result in
    let m : ℕ = last - first in
    let more : batch < count / 48 + 1 = search rules in
    let last_is : last ≡ min count (first + 48) = search rules in
    let from : min first count ≡ first = omega (arith, more) in
    let to : first + m ≡ min (48 * (batch + 1)) count = omega (arith, more, last_is) in
    let long : length c.loop-batch.texts ≡ length c.args.texts.now = c.loop-batch.invariant.size in
    let room : length c.loop-batch.blocks ≡ 768 = search rules in
    let so_far : PartsDone _ n first c.args.texts.now c.loop-batch.texts = rw from at c.loop-batch.invariant in
    let some : length (take (16 * m) c.loop-batch.blocks) / 16 ≡ m = omega (arith, more, last_is, length-take (16 * m) c.loop-batch.blocks, room) in
    rw (← to) (batch_next _ (batch_written n count batch last c.loop-batch.texts c.wrap_batch.new.texts more last_is (rw long c.requires.whole) c.wrap_batch.auto.texts) so_far (λ j less x y before. before)
    (λ i inside. c.wrap_batch.ensures i (rw some inside)))
