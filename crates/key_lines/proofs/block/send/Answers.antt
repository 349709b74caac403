-- All of the block went out, or a front of it.
use Rattle.std.proofs.Common.{rules}
use Rattle.key_lines.proofs.Blocks.{Sends-all, Sends-front}
use Rattle.key_lines.proofs.block.send.Goals as goal

pub returns-in-Ok-clause-sends : goal.returns-in-Ok-clause-sends
returns-in-Ok-clause-sends g c = Sends-all _ _ _ _ (rw c.deref.ensures.value at c.in-Ok.ensures.whole) (search rules)

pub returns-in-Err-clause-sends : goal.returns-in-Err-clause-sends
returns-in-Err-clause-sends g c =
    Sends-front _ _ _ _ c.in-Err.fault.written (rw c.deref.ensures.value at c.in-Err.ensures.front) c.remove_front.ensures.items
