-- The definitions answer the standard's worked bytes.
-- The checker computes both sides, with every definition opened.
use Rattle.std.proofs.Common.{refl}
use Rattle.fips197.specs.Field.{inverse, polynomial_product, product, remainder}
use Rattle.fips197.specs.SBox.{inv_s_box, number_with_bits, s_box, s_boxes}
use Rattle.aes_block.proofs.tests.computes_the_definitions.Goals as goal

pub returns-clause-products : goal.returns-clause-products
unfolding product remainder polynomial_product
returns-clause-products c = (refl, refl)

pub returns-clause-inverses : goal.returns-clause-inverses
unfolding inverse product remainder polynomial_product
returns-clause-inverses c = (refl, refl)

pub returns-clause-s_boxes : goal.returns-clause-s_boxes
unfolding inv_s_box s_boxes s_box number_with_bits inverse product remainder polynomial_product
returns-clause-s_boxes c = (refl, refl, refl)
