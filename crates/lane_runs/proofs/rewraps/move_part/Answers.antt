-- The copy is a write of the part.
use Rattle.lane_runs.proofs.Moves.{part_moved, part_stays}
use Rattle.lane_runs.proofs.rewraps.move_part.Goals as goal

pub returns-clause-moved : goal.returns-clause-moved
returns-clause-moved c = part_moved c.args.len c.args.from c.args.to _ _ c.requires.from c.requires.to c.copy_within.ensures.after

pub returns-clause-kept : goal.returns-clause-kept
returns-clause-kept c = λ i apart. part_stays c.args.len c.args.from c.args.to _ _ i c.requires.from c.requires.to c.copy_within.ensures.after apart
