-- The first block of each lane, over its text.
use Rattle.std.proofs.Common.{rules, ◌≡◌, ◌+◌, ◌*◌, ◌/◌, ◌-◌, ◌≤◌, ◌<◌, ℕ, List, length, arith, refl}
use Rattle.key_wrap_core.specs.BlockCalls.{block_calls}
use Rattle.key_wrap_core.specs.Steps.{UnwrapState}
use Rattle.key_wrap_lanes.specs.Lanes.{part_at, registers_at}
use Rattle.key_wrap_core.proofs.Parts.{Writes, part_room, part_length}
use Rattle.key_wrap_lanes.proofs.Parts.{block_writes, parts_next}
use Rattle.key_wrap_lanes.proofs.unwrap_many.begin_lanes.Goals as goal

pub loop-lane-preserved : goal.loop-lane-preserved
loop-lane-preserved c =
    let n : ℕ = c.args.text_len in
    let i : ℕ = c.loop-lane.lane in
    let texts : List ℕ = c.args.texts.now in
    let blocks : List ℕ = c.loop-lane.blocks in
    let block : List ℕ = c.copy_from_slice.new.self in
    let same : length blocks ≡ length c.args.blocks.now = c.loop-lane.auto.blocks in
    let below : i < length c.args.blocks.now / 16 = c.loop-lane-test.true in
    let writes : Writes 16 i (16 * i) (16 * i + 16 - 16 * i) blocks block = block_writes i blocks block c.copy_from_slice.auto.self (omega arith) in
    let whole : n * i + n - n * i ≡ n = omega arith in
    let room : n * i + n ≤ length texts = part_room n i (length c.args.blocks.now / 16) (length texts) below c.requires.lanes.2 in
    let size : length (part_at n i texts) ≡ n = part_length n (n * i) n texts refl room in
    let own : (E : List ℕ → List ℕ) → UnwrapState E (part_at n i texts) (block_calls n) (registers_at n i texts) block =
    rw (c.copy_from_slice.ensures.after) (rw (whole, size) at c.begin_lane-block.ensures) in
    parts_next (λ (j : ℕ) (b : List ℕ). (E : List ℕ → List ℕ) → UnwrapState E (part_at n j texts) (block_calls n) (registers_at n j texts) b)
    writes c.loop-lane.invariant own

pub returns : goal.returns
returns c = λ j below. let end : length c.args.blocks.now / 16 ≤ c.loop-lane.lane = search rules in c.loop-lane.invariant j (omega (arith, below, end))
