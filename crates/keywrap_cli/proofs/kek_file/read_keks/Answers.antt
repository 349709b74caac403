-- Both KEKs were read, or one was refused.
use Rattle.std.proofs.Common.{rules}
use Rattle.keywrap_cli.proofs.KekFiles.{both_read, first_refused, second_refused}
use Rattle.keywrap_cli.proofs.kek_file.read_keks.Goals as goal

pub returns-in-Err : goal.returns-in-Err
returns-in-Err g c = first_refused _ _ _ _ _ c.in-Err.ensures

pub returns-in-Ok-read_into : goal.returns-in-Ok-read_into
returns-in-Ok-read_into g c =
    both_read _ _ _ _ _ _ _ _ _ _ c.in-Ok.ensures c.in-Ok-read_into.ensures (search rules)

pub returns : goal.returns
returns g c = second_refused _ _ _ _ _ _ _ _ c.in-Ok.ensures c.in-Err-read_into.ensures
