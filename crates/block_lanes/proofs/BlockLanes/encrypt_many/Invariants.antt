-- The blocks before this one are encrypted, and the others are as they were.
use Rattle.block_lanes.proofs.Written.{Written}
use Rattle.block_lanes.proofs.BlockLanes.encrypt_many.Given as goal

abbrev pub invariant-loop-place : goal.invariant-loop-place
invariant-loop-place g l = Written (g.Self.BlockPair.encrypted l.self) l.place l.fn.blocks l.blocks
