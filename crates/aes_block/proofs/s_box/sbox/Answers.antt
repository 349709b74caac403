-- The table's entry is the S-box.
use Rattle.aes_block.proofs.Tables.{s_box_entry}
use Rattle.aes_block.proofs.s_box.sbox.Goals as goal

pub returns : goal.returns
returns c = s_box_entry c.args.a c.ranges.a.fits
