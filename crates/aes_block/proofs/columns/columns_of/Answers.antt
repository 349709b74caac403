-- Each word that is read has the four bytes at its place.
use Rattle.std.proofs.Common.{◌≡◌, ◌∙◌, length, arith}
use Rattle.fips197.specs.ExpandingLaw.{read_columns, read_word}
use Rattle.aes_block.proofs.columns.columns_of.Goals as goal

pub returns : goal.returns
returns c =
    let four : length c.read_u32_into.new.dst ≡ 4 = omega (arith, c.read_u32_into.auto.dst) in
    read_columns c.read_u32_into.new.dst c.args.block.now four c.requires (λ i. (c.type_inv.block i).fits)
    (λ i h. c.read_u32_into.ensures i (omega arith) ∙ read_word c.args.block.now i)
