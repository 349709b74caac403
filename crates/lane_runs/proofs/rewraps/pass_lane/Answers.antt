-- What the batch under the new pair says, for a copy of the block.
use Rattle.lane_runs.proofs.rewraps.pass_lane.Goals as goal

pub returns : goal.returns
returns c = record {
  outcome = c.end_unwrap_new.result;
  status_is = c.status_of.ensures;
  block' = c.end_unwrap_new.new.block;
  ends_phase = λ pass_new text. (rw c.copy_from_slice.ensures.after at c.end_unwrap_new.ensures.ends) pass_new text 0 c.end_unwrap_new.new.block;
}
