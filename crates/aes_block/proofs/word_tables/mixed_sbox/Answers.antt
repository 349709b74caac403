-- The table's entry is MixColumns of the byte's S-box in row 0.
use Rattle.aes_block.proofs.Tables.{mixed_s_box_entry}
use Rattle.aes_block.proofs.word_tables.mixed_sbox.Goals as goal

pub returns : goal.returns
returns c = mixed_s_box_entry c.args.a c.ranges.a.fits
