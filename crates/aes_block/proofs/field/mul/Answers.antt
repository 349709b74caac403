-- The body computes the field product.
-- After i steps the sum is the product with the i low bits of b, and the shifted byte is the product with the next power of x.
use Rattle.std.proofs.Common.{◌≡◌, ◌%◌, ◌∙◌, ap, sym, arith, mod-eq_of_lt}
use Rattle.fips197.specs.Field.{product}
use Rattle.fips197.specs.FieldLaw.{product_distributes, product_only}
use Rattle.aes_block.proofs.Multiplying.{product-one, product-zero, product-power, set_step, unset_step}
use Rattle.aes_block.proofs.field.mul.Goals as goal
use Rattle.aes_block.proofs.field.mul.Goals.{then-b-i-eq1, else-b-i-eq1}

pub loop-i-init : goal.loop-i-init
loop-i-init c =
    let none : c.args.b % 1 ≡ 0 = omega arith in record {
      sum_is = rw none (sym (product-zero c.args.a));
      shifted_is = λ _. sym (product-one c.args.a c.ranges.a.fits);
    }

pub loop-i-preserved : goal.loop-i-preserved
loop-i-preserved c =
    let a = c.args.a in
    let b = c.args.b in
    let i = c.loop-i.i in
    let shifted = c.loop-i.invariant.shifted_is c.loop-i-test.true in record {
      sum_is =
          elim c.if-b-i-eq1.branch [
            | then-b-i-eq1 w ↦ w.sum-is ∙ set_step a b i _ _ w.if-b-i-eq1.true c.loop-i.invariant.sum_is shifted
            | else-b-i-eq1 w ↦ w.sum-is ∙ unset_step a b i _ w.if-b-i-eq1.false c.loop-i.invariant.sum_is
          ];
      shifted_is =
          λ h. c.x_times-shifted.ensures ∙ ap (λ x. product x 2) shifted ∙ product-power a i c.ranges.a.fits (omega arith);
    }

pub returns-clause-value : goal.returns-clause-value
returns-clause-value c =
    let done : c.loop-i.i ≡ 8 = omega (arith, c.loop-i.auto.i-end) in
    rw (done, mod-eq_of_lt c.ranges.b.fits) at c.loop-i.invariant.sum_is

pub returns-clause-only_product : goal.returns-clause-only_product
returns-clause-only_product c = λ p.
    rw (returns-clause-value c) (product_only c.args.a c.args.b p c.ranges.a.fits c.ranges.b.fits)

pub returns-clause-distributes : goal.returns-clause-distributes
returns-clause-distributes c = product_distributes
