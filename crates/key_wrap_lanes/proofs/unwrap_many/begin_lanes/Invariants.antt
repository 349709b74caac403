-- The blocks before this one are the first of their unwrappings.
use Rattle.std.proofs.Common.{ℕ, ◌<◌, List, drop}
use Rattle.key_wrap_core.specs.BlockCalls.{block_calls}
use Rattle.key_wrap_core.specs.Steps.{UnwrapState}
use Rattle.key_wrap_lanes.specs.Lanes.{part_at, block_at}
use Rattle.key_wrap_lanes.proofs.unwrap_many.begin_lanes.Given as goal

abbrev pub invariant-loop-lane : goal.invariant-loop-lane
invariant-loop-lane l = (j : ℕ) → j < l.lane → (E : List ℕ → List ℕ)
    → UnwrapState E (part_at l.text_len j l.texts) (block_calls l.text_len) (drop 8 (part_at l.text_len j l.texts)) (block_at j l.blocks)
