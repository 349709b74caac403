-- The body computes the power 254, and a byte times it is 1.
-- Each of the thirteen products is the definition's; the two laws are computed over the bytes.
use Rattle.std.proofs.Common.{ap, ◌∙◌, refl}
use Rattle.fips197.specs.Field.{product, inverse}
use Rattle.aes_block.proofs.Multiplying.{product-inverse, inverse-zero}
use Rattle.aes_block.proofs.field.inverse.Goals as goal

pub returns-clause-value : goal.returns-clause-value
unfolding inverse
returns-clause-value c =
    rw (c.mul-6.ensures.value, c.mul-5.ensures.value, c.mul-4.ensures.value, c.mul-3.ensures.value, c.mul-2.ensures.value, c.mul.ensures.value)
    (rw (c.mul-a128.ensures.value, c.mul-a64.ensures.value, c.mul-a32.ensures.value, c.mul-a16.ensures.value)
    (rw (c.mul-a8.ensures.value, c.mul-a4.ensures.value, c.mul-a2.ensures.value) refl))

pub returns-clause-unit : goal.returns-clause-unit
returns-clause-unit c = λ nonzero. ap (product c.args.a) (returns-clause-value c) ∙ product-inverse c.args.a c.ranges.a.fits nonzero

pub returns-clause-zero : goal.returns-clause-zero
returns-clause-zero c = λ zero. returns-clause-value c ∙ ap inverse zero ∙ inverse-zero
