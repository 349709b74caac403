-- The state is what the rounds below k have made of the block.
use Rattle.std.proofs.Common.{◌≡◌, ◌-◌}
use Rattle.fips197.specs.KeyExpansion.{round_key}
use Rattle.fips197.specs.Rounds.{add_round_key}
use Rattle.fips197.specs.Cipher.{rounds}
use Rattle.fips197.specs.Words.{block_of}
use Rattle.aes_block.proofs.cipher.AesBlockPair.enc.Given as goal

abbrev pub invariant-loop-k : goal.invariant-loop-k
invariant-loop-k l = block_of l.state ≡ rounds l.self (l.k - 1) (add_round_key (round_key l.self 0) l.fn.b)
