-- The sum is the product with the bits of b below i.
use Rattle.std.proofs.Common.{◌≡◌, ◌%◌, ◌^◌, ◌<◌}
use Rattle.fips197.specs.Field.{product}
use Rattle.aes_block.proofs.field.mul.Given as goal

abbrev pub invariant-loop-i : goal.invariant-loop-i
invariant-loop-i l = record {
  sum_is : l.sum ≡ product l.a (l.b % 2 ^ l.i);
  shifted_is : l.i < 8 → l.shifted ≡ product l.a (2 ^ l.i);
}
