-- The result of the conversion in the room.
use Rattle.std.proofs.Common.{ap}
use Rattle.keywrap_cli.proofs.convert.convert_into.Goals as goal

pub returns-in-Err : goal.returns-in-Err
returns-in-Err g c =
    let own = ap (λ m. m.pair) c.new.ensures in
    rw c.job_refusal.ensures (rw own at c.in-Err.ensures)
