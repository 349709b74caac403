-- The first block of each lane, over the registers of its text.
use Rattle.std.proofs.Common.{rules, ◌≡◌, ◌+◌, ◌*◌, ◌/◌, ◌-◌, ◌≤◌, ◌<◌, ℕ, List, length, arith}
use Rattle.key_wrap_core.specs.Steps.{WrapState}
use Rattle.key_wrap_lanes.specs.Lanes.{registers_at}
use Rattle.key_wrap_core.proofs.Parts.{Writes}
use Rattle.key_wrap_lanes.proofs.Parts.{block_writes, parts_next}
use Rattle.key_wrap_lanes.proofs.wrap_many.begin_lanes.Goals as goal

pub loop-lane-preserved : goal.loop-lane-preserved
loop-lane-preserved c =
    let n : ℕ = c.args.text_len in
    let i : ℕ = c.loop-lane.lane in
    let blocks : List ℕ = c.loop-lane.blocks in
    let block : List ℕ = c.copy_from_slice.new.self in
    let same : length blocks ≡ length c.args.blocks.now = c.loop-lane.auto.blocks in
    let below : i < length c.args.blocks.now / 16 = c.loop-lane-test.true in
    let writes : Writes 16 i (16 * i) (16 * i + 16 - 16 * i) blocks block = block_writes i blocks block c.copy_from_slice.auto.self (omega arith) in
    let whole : n * i + n - n * i ≡ n = omega arith in
    let own : (E : List ℕ → List ℕ) → WrapState E c.args.iv.now (registers_at n i c.args.texts.now) 0 (registers_at n i c.args.texts.now) block =
    rw (c.copy_from_slice.ensures.after) (rw whole at c.begin_lane-block.ensures) in
    parts_next (λ (j : ℕ) (b : List ℕ). (E : List ℕ → List ℕ) → WrapState E c.args.iv.now (registers_at n j c.args.texts.now) 0 (registers_at n j c.args.texts.now) b)
    writes c.loop-lane.invariant own

pub returns : goal.returns
returns c = λ j below. let end : length c.args.blocks.now / 16 ≤ c.loop-lane.lane = search rules in c.loop-lane.invariant j (omega (arith, below, end))
