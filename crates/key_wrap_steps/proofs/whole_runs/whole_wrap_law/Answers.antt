use Rattle.key_wrap_steps.proofs.Runs.{run_plain, run_padded}
use Rattle.key_wrap_steps.proofs.whole_runs.whole_wrap_law.Goals as goal

pub returns-clause-plain : goal.returns-clause-plain
returns-clause-plain c = run_plain

pub returns-clause-padded : goal.returns-clause-padded
returns-clause-padded c = run_padded
