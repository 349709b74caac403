-- A shift, reduced if the top bit was set, is the product with x.
use Rattle.aes_block.proofs.Multiplying.{shifted_low, shifted_high}
use Rattle.aes_block.proofs.field.x_times.Goals as goal

pub returns-then-a-eq0 : goal.returns-then-a-eq0
returns-then-a-eq0 c = shifted_low c.args.a c.ranges.a.fits c.if-a-eq0.true

pub returns-else-a-eq0 : goal.returns-else-a-eq0
returns-else-a-eq0 c = shifted_high c.args.a c.ranges.a.fits c.if-a-eq0.false
