-- The blocks before this one are the first of their wrappings.
use Rattle.std.proofs.Common.{ℕ, ◌<◌, List}
use Rattle.key_wrap_core.specs.Steps.{WrapState}
use Rattle.key_wrap_lanes.specs.Lanes.{registers_at, block_at}
use Rattle.key_wrap_lanes.proofs.wrap_many.begin_lanes.Given as goal

abbrev pub invariant-loop-lane : goal.invariant-loop-lane
invariant-loop-lane l = (j : ℕ) → j < l.lane → (E : List ℕ → List ℕ)
    → WrapState E l.iv (registers_at l.text_len j l.texts) 0 (registers_at l.text_len j l.texts) (block_at j l.blocks)
