-- The S-box on each of the four bytes is SubWord.
use Rattle.std.proofs.Common.{refl}
use Rattle.fips197.specs.KeyExpansion.{sub_word}
use Rattle.aes_block.proofs.schedule.ByTableSubWord.sub_word.Goals as goal

pub returns : goal.returns
unfolding sub_word
returns c = rw (c.from_be_bytes.ensures, c.sbox.ensures, c.sbox-2.ensures, c.sbox-3.ensures, c.sbox-4.ensures, c.to_be_bytes.ensures) refl
