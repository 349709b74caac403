-- The initial value is the default.
use Rattle.std.proofs.Common.{ap}
use Rattle.key_wrap.proofs.plain.wrap.Goals as goal

pub returns : goal.returns
returns g c = rw (ap (λ m. m.pair) c.new.ensures, c.default.ensures) at c.wrap_on.ensures
