-- The table look-ups, turned and summed, are MixColumns on the column.
use Rattle.std.proofs.Common.{ap, bit_xor}
use Rattle.aes_block.proofs.ColumnRounds.{substituted, substituted_byte, looked_up}
use Rattle.aes_block.proofs.columns.round_column.Goals as goal

pub returns : goal.returns
returns c =
    let sum = looked_up (substituted c.args.rows_from) (substituted_byte c.args.rows_from) in
    rw (c.rotate_right-3.ensures, c.rotate_right-2.ensures, c.rotate_right.ensures)
    (rw (c.mixed_sbox-4.ensures, c.mixed_sbox-3.ensures, c.mixed_sbox-2.ensures, c.mixed_sbox.ensures, c.diagonal.ensures) (ap (λ x. bit_xor x c.args.key) sum))
