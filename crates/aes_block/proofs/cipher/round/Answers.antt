-- The four columns of a round are the round on the block.
-- The bytes of each column come from one lemma, at the four columns where ShiftRows finds its rows; joined, they compute to the definition's block.
use Rattle.std.proofs.Common.{slice_index, arith}
use Rattle.fips197.specs.Rounds.{sub_bytes, shift_rows, multiplied, add_round_key}
use Rattle.fips197.specs.ExpandingLaw.{joined}
use Rattle.aes_block.proofs.ColumnRounds.{from, round_bytes}
use Rattle.aes_block.proofs.cipher.round.Goals as goal

pub returns : goal.returns
unfolding sub_bytes shift_rows multiplied add_round_key
returns c =
    let s = c.args.state in
    let key = slice_index c.args.round_key in
    joined _ _ _ _ _ _ _ _
    (round_bytes (from s 0 1 2 3) (key 0) _ (omega arith) c.round_column.ensures)
    (round_bytes (from s 1 2 3 0) (key 1) _ (omega arith) c.round_column-2.ensures)
    (round_bytes (from s 2 3 0 1) (key 2) _ (omega arith) c.round_column-3.ensures)
    (round_bytes (from s 3 0 1 2) (key 3) _ (omega arith) c.round_column-4.ensures)
