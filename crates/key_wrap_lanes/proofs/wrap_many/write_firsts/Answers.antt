-- The first bytes of each text.
use Rattle.std.proofs.Common.{◌≡◌, ◌+◌, ◌*◌, ◌/◌, ◌-◌, ◌≤◌, ◌<◌, ◌++◌, ℕ, List, length, take, drop, arith, ◌∙◌}
use Rattle.key_wrap_lanes.specs.Lanes.{part_at, block_at}
use Rattle.key_wrap_core.proofs.Parts.{Writes}
use Rattle.key_wrap_lanes.proofs.Parts.{text_writes, parts_next, parts_left}
use Rattle.key_wrap_lanes.proofs.wrap_many.write_firsts.Goals as goal

pub loop-lane-preserved : goal.loop-lane-preserved
loop-lane-preserved c =
    let n : ℕ = c.args.text_len in
    let i : ℕ = c.loop-lane.lane in
    let old : List ℕ = c.args.texts.now in
    let texts : List ℕ = c.loop-lane.texts in
    let blocks : List ℕ = c.args.blocks.now in
    let text : List ℕ = c.write_first.new.text in
    let so_far = c.loop-lane.invariant in
    let same : length texts ≡ length old = c.loop-lane.auto.texts in
    let below : i < length blocks / 16 = c.loop-lane-test.true in
    let writes : Writes n i (n * i) (n * i + n - n * i) texts text =
    text_writes n i (length blocks / 16) texts text c.write_first.auto.text below (same ∙ c.requires.lanes.2) in
    let sixteen : 16 * i + 16 - 16 * i ≡ 16 = omega arith in
    let here : i ≤ i = omega arith in
    let own = rw (writes.whole, sixteen, so_far.left i here) at c.write_first.ensures in
    record {
      written = parts_next (λ (j : ℕ) (t : List ℕ). t ≡ take 8 (block_at j blocks) ++ drop 8 (part_at n j old)) writes so_far.written own;
      left = parts_left old writes so_far.left;
    }
