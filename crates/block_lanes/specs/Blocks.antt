-- Blocks of 16 bytes, each behind the one before.
use Rattle.std.specs.Prelude.{◌≡◌, ℕ, ◌*◌, ◌/◌, ◌<◌, List, length, take, drop}

-- the block at a place, counted from 0
abbrev pub block_at : ℕ → List ℕ → List ℕ
block_at i blocks = take 16 (drop (16 * i) blocks)

-- each block became what F makes of it
pub record EachBy (F : List ℕ → List ℕ) (old new : List ℕ) : Type 0 where
  pub each : (i : ℕ) → i < length old / 16 → block_at i new ≡ F (block_at i old)
