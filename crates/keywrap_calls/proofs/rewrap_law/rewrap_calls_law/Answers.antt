use Rattle.keywrap_calls.proofs.RewrapCalls.{whole_calls}
use Rattle.keywrap_calls.proofs.rewrap_law.rewrap_calls_law.Goals as goal

pub returns : goal.returns
returns c = whole_calls
