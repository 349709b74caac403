-- The only KEK was read, or it was refused.
use Rattle.keywrap_cli.proofs.KekFiles.{one_read, one_refused}
use Rattle.keywrap_cli.proofs.kek_file.read_kek.Goals as goal

pub returns-in-Ok : goal.returns-in-Ok
returns-in-Ok g c = one_read _ _ _ _ _ c.in-Ok.ensures

pub returns : goal.returns
returns g c = one_refused _ _ _ _ c.in-Err.ensures
