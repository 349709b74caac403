-- What one more read took follows what was taken before it, and is none, past the limit, or refused room.
use Rattle.std.proofs.Common.{◌+◌, ◌≤◌, ◌≡◌, ◌<◌, ℕ, List, length, take, ◌++◌, arith, length-append}
use Rattle.key_files.proofs.Common.{Consumes-trans, length-take}
use Rattle.key_files.proofs.Whole.{Consumes-none, ReadsAs-long, ReadsAs-memory, ReadsAs-raw}
use Rattle.key_files.proofs.read.read_raw.Goals as goal

pub returns-then-count-eq0 : goal.returns-then-count-eq0
returns-then-count-eq0 g c =
    let kept = c.loop-bytes.invariant in
    let read = c.in_ok-count.ensures in
    let held = c.loop-bytes.bytes.ok.0 in
    let room : 0 < length (take c.min-room.result c.loop-bytes.chunk) = simp length-take (omega arith) in
    let none = rw c.if-count-eq0.true at read.taken in
    ReadsAs-raw (Consumes-none _ _ _ _ kept.1 none) (omega arith) (read.end c.if-count-eq0.true room)

pub returns-then-count-limit : goal.returns-then-count-limit
returns-then-count-limit g c =
    let kept = c.loop-bytes.invariant in
    let read = c.in_ok-count.ensures in
    let held = c.loop-bytes.bytes.ok.0 in
    let taken : List ℕ = c.loop-bytes.bytes.items ++ take c.in_ok-count.count c.read_once.new.buf in
    let room : length c.read_once.new.buf ≤ c.min-room.result = rw (c.read_once.auto.buf, length-take) (omega arith) in
    let past : length taken ≡ c.args.limit + 1 = simp (length-append, length-take) (omega arith) in
    ReadsAs-long taken (Consumes-trans _ _ _ _ _ kept.1 read.taken) past

pub returns-in_err-extend_from_slice : goal.returns-in_err-extend_from_slice
returns-in_err-extend_from_slice g c =
    let kept = c.loop-bytes.invariant in
    let read = c.in_ok-count.ensures in
    let held = c.loop-bytes.bytes.ok.0 in
    let answer = c.from_residual-in_err-extend_from_slice in
    let taken : List ℕ = c.loop-bytes.bytes.items ++ take c.in_ok-count.count c.read_once.new.buf in
    let within : length taken ≤ c.args.limit = simp (length-append, length-take) (omega arith) in
    ReadsAs-memory taken answer.result answer.ensures.1 (Consumes-trans _ _ _ _ _ kept.1 read.taken) within
