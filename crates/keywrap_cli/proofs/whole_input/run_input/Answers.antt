-- The input was read, and then answered, or was refused.
use Rattle.std.proofs.Common.{Ok, Err, refl}
use Rattle.keywrap_cli.proofs.whole_input.run_input.Goals as goal

pub returns-in-Ok : goal.returns-in-Ok
returns-in-Ok g c = record { text = Ok c.in-Ok.bytes; read = c.in-Ok.ensures; rest = c.write_answer.ensures }

pub returns-in-Err : goal.returns-in-Err
returns-in-Err g c =
    record { text = Err c.input_fault.result; read = (c.in-Err.fault, c.in-Err.ensures, c.input_fault.ensures); rest = (refl, refl) }
