-- What the batch under the old pair says, for a copy of the block.
use Rattle.std.proofs.Common.{false}
use Rattle.lane_runs.proofs.rewraps.end_old_lane.Goals as goal

pub returns-in-WrapNew : goal.returns-in-WrapNew
returns-in-WrapNew c = record {
  outcome = c.in-WrapNew.outcome;
  status_is = c.status_of.ensures;
  ends_phase = λ pass_new. rw c.copy_from_slice-in-WrapNew.ensures.after ((rw (c.copy_from_slice.ensures.after, c.in-WrapNew.is) at c.end_unwrap_old.ensures.ends_phase) pass_new);
}

pub returns-in-WrapOld : goal.returns-in-WrapOld
returns-in-WrapOld c = record {
  fault = c.in-WrapOld.fault;
  status_is = c.status_of-in-WrapOld.ensures;
  has_fault = λ E D text inv old state. ((rw (c.copy_from_slice.ensures.after, c.in-WrapOld.is) at c.end_unwrap_old.ensures.ends_phase) false text E D E D inv inv (old, state)).0;
}

pub returns-in-UnwrapNew : goal.returns-in-UnwrapNew
returns-in-UnwrapNew c = record {
  fault = c.in-UnwrapNew.fault;
  status_is = c.status_of-in-UnwrapNew.ensures;
  has_fault = λ E D text inv old state. ((rw (c.copy_from_slice.ensures.after, c.in-UnwrapNew.is) at c.end_unwrap_old.ensures.ends_phase) false text E D E D inv inv (old, state)).0;
}
