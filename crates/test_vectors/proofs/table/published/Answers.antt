-- Both sides compute to the same bytes.
use Rattle.std.proofs.Common.{refl}
use Rattle.test_vectors.proofs.table.published.Goals as goal

pub returns : goal.returns
returns c = refl
