-- The state represents the block after the rounds below k.
use Rattle.std.proofs.Common.{◌≡◌, ◌-◌, map}
use Rattle.fips197.specs.KeyExpansion.{round_key}
use Rattle.fips197.specs.Rounds.{add_round_key}
use Rattle.fips197.specs.Cipher.{rounds}
use Rattle.aes_vector.specs.Tower.{element}
use Rattle.aes_vector.proofs.cipher.LentAesBlockPair.enc.Given as goal

abbrev pub invariant-loop-k : goal.invariant-loop-k
invariant-loop-k l = map element l.state ≡ rounds l.self (l.k - 1) (add_round_key (round_key l.self 0) l.fn.b)
