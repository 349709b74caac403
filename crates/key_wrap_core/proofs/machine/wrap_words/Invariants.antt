-- The wrapping has these steps done, and each was one block call.
use Rattle.key_wrap_core.specs.Steps.{WrapState}
use Rattle.key_wrap_core.proofs.Counting.{Called}
use Rattle.key_wrap_core.proofs.machine.wrap_words.Given as goal

abbrev pub invariant-loop-done : goal.invariant-loop-done
invariant-loop-done g l = record {
  state : WrapState (g.B.BlockPair.encrypted l.fn.meter.pair) l.iv l.fn.registers l.done l.registers l.block;
  calls : Called l.done l.fn.meter l.meter;
}
