-- Blocks in words of four bytes, the first byte the most significant.
use Rattle.std.specs.Prelude.{ℕ, List, [], ◌∷◌, slice_index}
use Rattle.std.specs.Int.{w32, to_be_bytes}
use Rattle.std.specs.List.{flat_map}

-- the block of four words, its columns
abbrev pub block_of : List ℕ → List ℕ
block_of s = flat_map (λ c. to_be_bytes w32 (slice_index s c)) (0 ∷ 1 ∷ 2 ∷ 3 ∷ [])
