-- The initial value is the default.
use Rattle.key_wrap_core.proofs.kinds.kind_into.Goals as goal

pub returns : goal.returns
returns g c =
    let w = rw c.default.ensures at c.kind_into_with.ensures in
    record { kind = w.kind; scratch = w.scratch }
