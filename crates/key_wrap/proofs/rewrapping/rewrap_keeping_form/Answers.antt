-- The meter is of the pair.
use Rattle.std.proofs.Common.{ap}
use Rattle.key_wrap.proofs.rewrapping.rewrap_keeping_form.Goals as goal

pub returns : goal.returns
returns g c = rw (ap (λ m. m.pair) c.new-old.ensures, ap (λ m. m.pair) c.new-new.ensures) at c.rewrap_on.ensures
