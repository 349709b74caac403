-- The texts before this one have their first bytes, and the others are as they were.
use Rattle.std.proofs.Common.{◌≡◌, ℕ, ◌<◌, ◌≤◌, ◌++◌, take, drop}
use Rattle.key_wrap_lanes.specs.Lanes.{part_at, block_at}
use Rattle.key_wrap_lanes.proofs.wrap_many.write_firsts.Given as goal

abbrev pub invariant-loop-lane : goal.invariant-loop-lane
invariant-loop-lane l = record {
  written : (j : ℕ) → j < l.lane → part_at l.text_len j l.texts ≡ take 8 (block_at j l.blocks) ++ drop 8 (part_at l.text_len j l.fn.texts);
  left : (j : ℕ) → l.lane ≤ j → part_at l.text_len j l.texts ≡ part_at l.text_len j l.fn.texts;
}
