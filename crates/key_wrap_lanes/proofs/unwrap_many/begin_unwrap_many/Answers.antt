-- The first blocks are the blocks before all steps.
use Rattle.key_wrap_lanes.proofs.unwrap_many.begin_unwrap_many.Goals as goal

pub returns-clause-begins : goal.returns-clause-begins
returns-clause-begins c = rw c.lane_steps.ensures.calls c.begin_lanes.ensures
