-- The mask covers the requested number of bytes.
use Rattle.key_wrap_core.proofs.Differences.{low_mask}
use Rattle.key_wrap_core.proofs.checks.last_bytes.Goals as goal

pub returns : goal.returns
returns c = low_mask c.args.word c.args.count c.requires
