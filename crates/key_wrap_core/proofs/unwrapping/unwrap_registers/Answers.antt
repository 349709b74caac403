-- The machine ran back to an initial value and registers.
use Rattle.std.proofs.Common.{◌++◌}
use Rattle.key_wrap_core.specs.Words.{word_bytes}
use Rattle.key_wrap_core.proofs.unwrapping.unwrap_registers.Goals as goal

pub returns-clause-answer : goal.returns-clause-answer
returns-clause-answer g c =
    let pair = c.args.meter.now.pair in
    c.end_plain.ensures.answer (g.B.BlockPair.encrypted pair) (g.B.BlockPair.decrypted pair) (word_bytes c.args.c0 ++ c.args.registers.now)
    (g.met.B.BlockPair.lawful pair) c.machine_unwrap-found.ensures.wrapped
