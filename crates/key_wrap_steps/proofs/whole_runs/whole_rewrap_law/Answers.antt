use Rattle.key_wrap_steps.proofs.RewrapPhaseEnds.{whole_rewrap}
use Rattle.key_wrap_steps.proofs.whole_runs.whole_rewrap_law.Goals as goal

pub returns : goal.returns
returns c = whole_rewrap
