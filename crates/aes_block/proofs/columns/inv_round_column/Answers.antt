-- The table look-ups, turned and summed, are InvMixColumns on the column.
use Rattle.aes_block.proofs.ColumnRounds.{unmixed, unmixed_byte, inv_looked_up}
use Rattle.aes_block.proofs.columns.inv_round_column.Goals as goal

pub returns : goal.returns
returns c =
    let sum = inv_looked_up (unmixed c.args.rows_from c.args.key) (unmixed_byte c.args.rows_from c.args.key) in
    rw (c.rotate_right-3.ensures, c.rotate_right-2.ensures, c.rotate_right.ensures)
    (rw (c.inv_mixed-4.ensures, c.inv_mixed-3.ensures, c.inv_mixed-2.ensures, c.inv_mixed.ensures)
    (rw (c.inv_sbox-4.ensures.value, c.inv_sbox-3.ensures.value, c.inv_sbox-2.ensures.value, c.inv_sbox.ensures.value)
    (rw (c.to_be_bytes.ensures, c.diagonal.ensures) sum)))
