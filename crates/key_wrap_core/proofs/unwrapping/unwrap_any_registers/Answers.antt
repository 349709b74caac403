-- The machine ran back to an initial value and registers, which hold the key or none.
use Rattle.key_wrap_core.proofs.unwrapping.unwrap_any_registers.Goals as goal

pub returns : goal.returns
returns g c =
    let w = c.end_any.ensures.ends in
    record {
      unwraps = w.answer _ _ _ (g.met.B.BlockPair.lawful c.args.meter.now.pair) c.machine_unwrap-found.ensures.wrapped;
      key = c.end_any.ensures.key;
      cleared = w.cleared;
      calls = c.machine_unwrap-found.ensures.meter;
    }
