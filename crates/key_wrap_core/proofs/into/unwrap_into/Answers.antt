-- The initial value is the default.
use Rattle.key_wrap_core.proofs.into.unwrap_into.Goals as goal

pub returns : goal.returns
returns g c =
    let w = rw c.default.ensures at c.unwrap_into_with.ensures in
    record { unwraps = w.unwraps; refused = w.refused; calls = w.calls }
