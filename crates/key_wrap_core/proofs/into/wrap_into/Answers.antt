-- The initial value is the default.
use Rattle.key_wrap_core.proofs.into.wrap_into.Goals as goal

pub returns : goal.returns
returns g c =
    let w = rw c.default.ensures at c.wrap_into_with.ensures in
    record { wraps = w.wraps; calls = w.calls }
