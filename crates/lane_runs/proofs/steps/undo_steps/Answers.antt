-- A step of each lane undone, over the blocks that were decrypted side by side.
use Rattle.std.proofs.Common.{rules, ◌≡◌, ℕ, ◌+◌, ◌-◌, ◌*◌, ◌<◌, ◌≤◌, List, length, drop, refl, ◌∙◌, ap, arith}
use Rattle.key_wrap_core.specs.BlockCalls.{block_calls}
use Rattle.key_wrap_lanes.specs.Lanes.{AreLanes, block_at}
use Rattle.block_pair.specs.Words.{IsByte, IsBlock}
use Rattle.block_pair.specs.Each.{each_take, each_drop}
use Rattle.key_wrap_core.proofs.Spelling.{each_byte}
use Rattle.key_wrap_core.proofs.Parts.{part_length}
use Rattle.lane_runs.proofs.Legal.{given}
use Rattle.lane_runs.proofs.steps.undo_steps.Goals as goal

pub loop-step-init : goal.loop-step-init
loop-step-init g c =
    let n : ℕ = c.args.text_len in
    let back : 8 + (n - 8) ≡ n = omega (arith, c.requires.0.1) in
    let all : c.step_count-left.result ≡ block_calls n = rw back at c.step_count-left.ensures in record {
      count = omega (arith, all);
      bytes = each_byte c.args.blocks.now (search rules);
      states = λ i below text begun. rw all begun;
    }

pub loop-step-preserved : goal.loop-step-preserved
loop-step-preserved g c =
    let E = g.B.BlockPair.encrypted c.args.pair.now in
    let n : ℕ = c.args.text_len in
    let so_far = c.loop-step.invariant in
    let stepped = c.step_unwrap_many-stepped.ensures in
    let back : 8 + (n - 8) ≡ n = omega (arith, c.requires.0.1) in
    let all : c.step_count-left.result ≡ block_calls n = rw back at c.step_count-left.ensures in
    let long : length c.loop-step.texts ≡ length c.args.texts.now = c.loop-step.auto.texts in
    let before : length c.loop-step.blocks ≡ length c.args.blocks.now = search rules in
    let same : length c.decrypt_many.new.blocks ≡ length c.args.blocks.now = search rules in
    let lanes : AreLanes n c.loop-step.texts c.decrypt_many.new.blocks = rw (same, long) c.requires in
    let more : c.loop-step._step < c.step_count-left.result = c.loop-step-test.true in
    let legal : AreLanes n c.loop-step.texts c.decrypt_many.new.blocks × (1 ≤ c.loop-step.left) × (c.loop-step.left ≤ block_calls n) =
    (lanes, omega (arith, so_far.count, more, all), omega (arith, so_far.count)) in
    let counts : c.loop-step.left ≡ c.step_unwrap_many-stepped.new.left + 1 = given stepped.refused legal stepped.counts in record {
      count = omega (arith, counts, so_far.count);
      bytes = each_byte c.step_unwrap_many-stepped.new.blocks (search rules);
      states = λ i below text begun.
          let b : List ℕ = block_at i c.loop-step.blocks in
          let whole : IsBlock b = record {
            sixteen = part_length 16 (16 * i) 16 c.loop-step.blocks refl (omega (arith, below, before));
            bytes = each_take IsByte 16 (drop (16 * i) c.loop-step.blocks) (each_drop IsByte (16 * i) c.loop-step.blocks so_far.bytes);
          } in
          let again : E (block_at i c.decrypt_many.new.blocks) ≡ b =
          ap E (c.decrypt_many.ensures.each i (rw before below)) ∙ (g.met.B.BlockPair.lawful c.args.pair.now).redone b whole in
          given stepped.refused legal stepped.steps i (rw same below) E text b (so_far.states i below text begun) again;
    }

pub returns : goal.returns
returns g c = λ i below text begun.
    let n : ℕ = c.args.text_len in
    let back : 8 + (n - 8) ≡ n = omega (arith, c.requires.0.1) in
    let all : c.step_count-left.result ≡ block_calls n = rw back at c.step_count-left.ensures in
    let so_far = c.loop-step.invariant in
    let none : c.loop-step.left ≡ 0 = omega (arith, so_far.count, all, c.loop-step-test.false) in
    rw none at (so_far.states i below text begun)
