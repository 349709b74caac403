-- The blocks before this one are decrypted, and the others are as they were.
use Rattle.block_lanes.proofs.Written.{Written}
use Rattle.block_lanes.proofs.BlockLanes.decrypt_many.Given as goal

abbrev pub invariant-loop-place : goal.invariant-loop-place
invariant-loop-place g l = Written (g.Self.BlockPair.decrypted l.self) l.place l.fn.blocks l.blocks
