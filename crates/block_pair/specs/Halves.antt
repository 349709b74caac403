-- The drill block: E(a | x) = x | a, so that answers can be worked by hand.
use Rattle.std.specs.Prelude.{ℕ, List, ◌++◌, take, drop}

-- bytes 8 to 15, then bytes 0 to 7
abbrev pub swapped_halves : List ℕ → List ℕ
swapped_halves b = drop 8 b ++ take 8 b
