-- Each slot has what its unwrapping gave.
use Rattle.keywrap_calls.proofs.Lanes.{slot_unwrapped}
use Rattle.keywrap_calls.proofs.many_lanes.unwrap_side_by_side.Goals as goal

pub returns : goal.returns
returns g c = λ kek legal i below. slot_unwrapped c.args.form _ kek _ _ _ _ legal (c.unwrap_texts.ensures i below)
