-- The four columns of the inverse cipher's last round are its transformations on the block.
-- The bytes of each column come from one lemma, at the four columns where InvShiftRows finds its rows; joined, they compute to the definition's block.
use Rattle.std.proofs.Common.{slice_index, arith}
use Rattle.fips197.specs.Rounds.{inv_sub_bytes, inv_shift_rows, add_round_key}
use Rattle.fips197.specs.ExpandingLaw.{joined}
use Rattle.aes_block.proofs.ColumnRounds.{from, inv_last_bytes}
use Rattle.aes_block.proofs.cipher.inv_last_round.Goals as goal

pub returns : goal.returns
unfolding inv_sub_bytes inv_shift_rows add_round_key
returns c =
    let s = c.args.state in
    let key = slice_index c.args.round_key in
    joined _ _ _ _ _ _ _ _
    (inv_last_bytes (from s 0 3 2 1) (key 0) _ (omega arith) c.inv_last_column.ensures)
    (inv_last_bytes (from s 1 0 3 2) (key 1) _ (omega arith) c.inv_last_column-2.ensures)
    (inv_last_bytes (from s 2 1 0 3) (key 2) _ (omega arith) c.inv_last_column-3.ensures)
    (inv_last_bytes (from s 3 2 1 0) (key 3) _ (omega arith) c.inv_last_column-4.ensures)
