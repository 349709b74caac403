-- One block after the other.
use Rattle.std.proofs.Common.{rules, ◌≡◌, ℕ, ◌+◌, ◌*◌, ◌-◌, ◌/◌, ◌<◌, ◌≤◌, List, length, drop, arith, ap, ◌∙◌, length-drop, length-take}
use Rattle.block_lanes.proofs.Written.{next_written}
use Rattle.block_lanes.proofs.BlockLanes.decrypt_many.Goals as goal

pub loop-place-preserved : goal.loop-place-preserved
loop-place-preserved g c =
    let i : ℕ = c.loop-place.place in
    let new : List ℕ = c.loop-place.blocks in
    let below : i < length c.args.blocks.now / 16 = c.loop-place-test.true in
    let same : length new ≡ length c.args.blocks.now = c.loop-place.invariant.size in
    let k : ℕ = 16 * i + 16 - 16 * i in
    let whole : k ≡ 16 = omega arith in
    let size : length c.copy_from_slice-in-loop-place.new.self ≡ 16 =
    omega (arith, c.copy_from_slice-in-loop-place.ensures.len, length-take k (drop (16 * i) new), length-drop (16 * i) new) in
    next_written whole size (omega arith) c.loop-place.invariant
    (c.copy_from_slice-in-loop-place.ensures.after ∙ c.dec.ensures ∙ ap (g.Self.BlockPair.decrypted c.args.self.now) c.copy_from_slice.ensures.after)

pub returns : goal.returns
returns g c =
    let end : length c.args.blocks.now / 16 ≤ c.loop-place.place = search rules in
    record { each = λ j below. c.loop-place.invariant.done j (omega (arith, below, end)) }
