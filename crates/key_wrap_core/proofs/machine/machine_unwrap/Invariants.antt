-- The unwrapping has these steps left, and each that was undone was one block call.
use Rattle.std.proofs.Common.{◌-◌, ◌+◌, length}
use Rattle.key_wrap_core.specs.Words.{word_bytes}
use Rattle.key_wrap_core.specs.BlockCalls.{block_calls}
use Rattle.std.proofs.Common.{◌++◌}
use Rattle.key_wrap_core.specs.Steps.{UnwrapState}
use Rattle.key_wrap_core.proofs.Counting.{Called}
use Rattle.key_wrap_core.proofs.machine.machine_unwrap.Given as goal

abbrev pub invariant-loop-left : goal.invariant-loop-left
invariant-loop-left g l = record {
  state : UnwrapState (g.B.BlockPair.encrypted l.fn.meter.pair) (word_bytes l.c0 ++ l.fn.registers) l.left l.registers l.block;
  calls : Called (block_calls (8 + length l.fn.registers) - l.left) l.fn.meter l.meter;
}
