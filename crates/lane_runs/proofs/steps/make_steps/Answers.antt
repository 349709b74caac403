-- A step of each lane, over the blocks that were encrypted side by side.
use Rattle.std.proofs.Common.{rules, ◌≡◌, ℕ, ◌+◌, ◌-◌, ◌<◌, length, refl, arith}
use Rattle.key_wrap_core.specs.BlockCalls.{block_calls}
use Rattle.key_wrap_core.specs.Steps.{WrapState}
use Rattle.key_wrap_lanes.specs.Lanes.{AreLanes, registers_at, block_at}
use Rattle.lane_runs.proofs.Legal.{given}
use Rattle.lane_runs.proofs.steps.make_steps.Goals as goal

pub loop-step-init : goal.loop-step-init
loop-step-init g c = record { count = refl; states = λ i below iv key begun. begun }

pub loop-step-preserved : goal.loop-step-preserved
loop-step-preserved g c =
    let E = g.B.BlockPair.encrypted c.args.pair.now in
    let n : ℕ = c.args.text_len in
    let so_far = c.loop-step.invariant in
    let stepped = c.step_wrap_many-stepped.ensures in
    let back : 8 + (n - 8) ≡ n = omega (arith, c.requires.0.1) in
    let all : c.step_count-step-end.result ≡ block_calls n = rw back at c.step_count-step-end.ensures in
    let long : length c.loop-step.texts ≡ length c.args.texts.now = c.loop-step.auto.texts in
    let before : length c.loop-step.blocks ≡ length c.args.blocks.now = search rules in
    let same : length c.encrypt_many.new.blocks ≡ length c.args.blocks.now = search rules in
    let lanes : AreLanes n c.loop-step.texts c.encrypt_many.new.blocks = rw (same, long) c.requires in
    let left : c.loop-step._step < c.step_count-step-end.result = c.loop-step-test.true in
    let legal : AreLanes n c.loop-step.texts c.encrypt_many.new.blocks × c.loop-step.done < block_calls n =
    (lanes, omega (arith, so_far.count, left, all)) in
    let counts : c.step_wrap_many-stepped.new.done ≡ c.loop-step.done + 1 = given stepped.refused legal stepped.counts in
    let count : c.step_wrap_many-stepped.new.done ≡ c.loop-step._step + 1 = omega (arith, counts, so_far.count) in record {
      count = count;
      states = λ i below iv key begun.
          let state : WrapState E iv key c.loop-step.done (registers_at n i c.loop-step.texts) (block_at i c.loop-step.blocks) =
          rw so_far.count (so_far.states i below iv key begun) in
          let next = given stepped.refused legal stepped.steps i (rw same below) E iv key (block_at i c.loop-step.blocks) state
          (c.encrypt_many.ensures.each i (rw before below)) in
          rw count at next;
    }

pub returns : goal.returns
returns g c = λ i below iv key begun.
    let n : ℕ = c.args.text_len in
    let back : 8 + (n - 8) ≡ n = omega (arith, c.requires.0.1) in
    let all : c.step_count-step-end.result ≡ block_calls n = rw back at c.step_count-step-end.ensures in
    let ended : c.loop-step._step ≡ block_calls n = omega (arith, all, c.loop-step-test.false, c.loop-step.auto._step-end) in
    rw ended at (c.loop-step.invariant.states i below iv key begun)
