-- The initial value is the default.
use Rattle.std.proofs.Common.{ap}
use Rattle.key_wrap.proofs.kinds.kind.Goals as goal

pub returns-clause-kind : goal.returns-clause-kind
returns-clause-kind g c = rw (ap (λ m. m.pair) c.new.ensures, c.default.ensures) at c.kind_on.ensures.kind
