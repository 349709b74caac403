-- The sum of the four columns is AddRoundKey on the block.
-- The bytes of each sum come from one lemma; joined, they compute to the definition's block.
use Rattle.std.proofs.Common.{arith}
use Rattle.fips197.specs.Rounds.{add_round_key}
use Rattle.fips197.specs.ExpandingLaw.{joined}
use Rattle.aes_block.proofs.ColumnWords.{sum_bytes}
use Rattle.aes_block.proofs.cipher.add_round_key.Goals as goal

pub returns : goal.returns
unfolding add_round_key
returns c =
    joined _ _ _ _ _ _ _ _
    (sum_bytes _ _ (omega arith) (omega arith))
    (sum_bytes _ _ (omega arith) (omega arith))
    (sum_bytes _ _ (omega arith) (omega arith))
    (sum_bytes _ _ (omega arith) (omega arith))
