-- Each wrapping that had begun has as many steps done.
use Rattle.std.proofs.Common.{◌≡◌, ℕ, ◌/◌, ◌<◌, List, length}
use Rattle.key_wrap_core.specs.Steps.{WrapState}
use Rattle.key_wrap_lanes.specs.Lanes.{registers_at, block_at}
use Rattle.lane_runs.proofs.steps.make_steps.Given as goal

abbrev pub invariant-loop-step : goal.invariant-loop-step
invariant-loop-step g l = record {
  count : l.done ≡ l._step;
  states : (i : ℕ) → i < length l.fn.blocks / 16 → (iv : ℕ) (key : List ℕ)
      → WrapState (g.B.BlockPair.encrypted l.pair) iv key 0 (registers_at l.text_len i l.fn.texts) (block_at i l.fn.blocks)
      → WrapState (g.B.BlockPair.encrypted l.pair) iv key l._step (registers_at l.text_len i l.texts) (block_at i l.blocks);
}
