-- Each unwrapping that had begun has as many steps undone.
use Rattle.std.proofs.Common.{◌≡◌, ℕ, ◌+◌, ◌/◌, ◌<◌, List, length}
use Rattle.std.specs.List.{AllByRecursion}
use Rattle.block_pair.specs.Words.{IsByte}
use Rattle.key_wrap_core.specs.BlockCalls.{block_calls}
use Rattle.key_wrap_core.specs.Steps.{UnwrapState}
use Rattle.key_wrap_lanes.specs.Lanes.{registers_at, block_at}
use Rattle.lane_runs.proofs.steps.undo_steps.Given as goal

abbrev pub invariant-loop-step : goal.invariant-loop-step
invariant-loop-step g l = record {
  count : l.left + l._step ≡ block_calls l.text_len;
  bytes : AllByRecursion IsByte l.blocks;
  states : (i : ℕ) → i < length l.fn.blocks / 16 → (text : List ℕ)
      → UnwrapState (g.B.BlockPair.encrypted l.pair) text (block_calls l.text_len) (registers_at l.text_len i l.fn.texts) (block_at i l.fn.blocks)
      → UnwrapState (g.B.BlockPair.encrypted l.pair) text l.left (registers_at l.text_len i l.texts) (block_at i l.blocks);
}
