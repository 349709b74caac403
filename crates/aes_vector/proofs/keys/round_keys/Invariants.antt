-- The keys below k are there.
use Rattle.std.proofs.Common.{◌≡◌, ℕ, ◌<◌, length}
use Rattle.fips197.specs.KeyExpansion.{round_key}
use Rattle.aes_vector.specs.VectorSchedule.{IsFirstKey, IsMiddleKey, key_at}
use Rattle.aes_vector.proofs.keys.round_keys.Given as goal

abbrev pub invariant-loop-k : goal.invariant-loop-k
invariant-loop-k l = record {
  long : length l.keys ≡ 15;
  first : IsFirstKey (key_at l.keys 0) (round_key l.words 0);
  middle : (j : ℕ) → 0 < j → j < l.k → IsMiddleKey (key_at l.keys j) (round_key l.words j);
}
