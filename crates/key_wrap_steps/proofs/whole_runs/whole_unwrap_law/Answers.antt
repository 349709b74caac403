use Rattle.key_wrap_steps.proofs.Runs.{run_undone}
use Rattle.key_wrap_steps.proofs.whole_runs.whole_unwrap_law.Goals as goal

pub returns : goal.returns
returns c = run_undone
