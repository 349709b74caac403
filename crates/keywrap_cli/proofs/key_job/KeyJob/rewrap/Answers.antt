-- The fault of the call in the buffer, with the meters' pairs.
use Rattle.std.proofs.Common.{ap}
use Rattle.keywrap_cli.proofs.key_job.KeyJob.rewrap.Goals as goal

pub returns-in-Err : goal.returns-in-Err
returns-in-Err g c =
    let own = ap (λ m. m.pair) c.new-old.ensures in
    let own' = ap (λ m. m.pair) c.new-new.ensures in
    let e = rw (own, own', c.last_pair.ensures, c.deref_mut.ensures.value) at c.in-Err.ensures in
    e.rewraps.0
