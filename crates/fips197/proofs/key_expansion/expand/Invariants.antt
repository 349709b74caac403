-- The words below i agree with the key expansion.
use Rattle.std.proofs.Common.{◌≡◌, ℕ, ◌<◌, length, slice_index}
use Rattle.fips197.specs.KeyExpansion.{key_expansion}
use Rattle.fips197.proofs.key_expansion.expand.Given as goal

abbrev pub invariant-loop-i : goal.invariant-loop-i
invariant-loop-i g l = record {
  long : length l.words ≡ 60;
  words : (j : ℕ) → j < l.i → slice_index l.words j ≡ slice_index (key_expansion l.kek) j;
}
