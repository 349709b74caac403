-- `bytes` has what was taken from the reader, within the limit.
use Rattle.key_files.proofs.Common.{◌≡◌, ◌≤◌, ◌+◌, ◌-◌, length, vec_len, Consumes}
use Rattle.key_files.specs.declared.read.TheConstants.{CHUNK}
use Rattle.key_files.proofs.read.read_raw.Given as goal

abbrev pub invariant-loop-bytes : goal.invariant-loop-bytes
invariant-loop-bytes g l =
    (vec_len l.bytes ≤ l.limit)
    × Consumes (g.R.Read.remaining l.initial.reader) (g.R.Read.remaining l.reader) l.bytes.items
    × (length l.chunk ≡ CHUNK)

abbrev pub decreases-loop-bytes : goal.decreases-loop-bytes
decreases-loop-bytes g l = l.limit + 1 - vec_len l.bytes
