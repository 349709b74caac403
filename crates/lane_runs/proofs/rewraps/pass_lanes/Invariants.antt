-- The lanes before this one have ended, and the statuses of the others are as they were.
use Rattle.std.proofs.Common.{◌≡◌, ◌<◌, ◌≤◌, ℕ, get_or}
use Rattle.lane_runs.specs.Rewraps.{EndsPassing}
use Rattle.lane_runs.proofs.rewraps.pass_lanes.Given as goal

abbrev pub invariant-loop-lane : goal.invariant-loop-lane
invariant-loop-lane l = record {
  ended : (j : ℕ) → j < l.lane → EndsPassing l.forms l.text_len l.lanes l.blocks (get_or l.places j 0) l.tried
      (get_or l.fn.statuses j 0) (get_or l.statuses j 0);
  left : (j : ℕ) → l.lane ≤ j → get_or l.statuses j 0 ≡ get_or l.fn.statuses j 0;
}
