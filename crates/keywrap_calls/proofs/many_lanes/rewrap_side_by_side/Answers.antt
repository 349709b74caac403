-- Each slot has what its rewrapping gave.
use Rattle.keywrap_calls.proofs.LaneKinds.{slot_rewrapped}
use Rattle.keywrap_calls.proofs.many_lanes.rewrap_side_by_side.Goals as goal

pub returns : goal.returns
returns g c = λ old_kek new_kek flags keks asked i below.
    slot_rewrapped _ _ old_kek new_kek flags c.args.request.now _ _ _ keks asked (c.rewrap_texts.ensures i below)
