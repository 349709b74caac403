-- The table's entry is InvMixColumns of the byte in row 0.
use Rattle.aes_block.proofs.Tables.{inv_mixed_entry}
use Rattle.aes_block.proofs.word_tables.inv_mixed.Goals as goal

pub returns : goal.returns
returns c = inv_mixed_entry c.args.a c.ranges.a.fits
