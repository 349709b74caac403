-- The meter is of the pair.
use Rattle.std.proofs.Common.{ap}
use Rattle.key_wrap.proofs.plain.unwrap_with.Goals as goal

pub returns : goal.returns
returns g c = rw (ap (λ m. m.pair) c.new.ensures) at c.unwrap_on.ensures
