-- A command without files ends with the status of its call, or by its fault.
use Rattle.std.proofs.Common.{◌≡◌, ℕ, List}
use Rattle.std.specs.Io.KnownBytes.{Appends}
use Rattle.keywrap_cli.specs.ToyAndVectors.{IsDrillFault, IsDrillLine, IsVectorsFault, WritesReport}
use Rattle.keywrap_cli.specs.VectorReport.{LibraryGives}
use Rattle.keywrap.proofs.Ending.{both_ok, ends_by}
use Rattle.keywrap.proofs.program.run_command.Goals as goal

pub returns-in-Drill : goal.returns-in-Drill
returns-in-Drill g c =
    let call = c.in-Drill in
    let out = g.W.Write.contents c.args.out.now in
    let out' = g.W.Write.contents c.run_drill.new.out in
    rw c.in-Drill.is (ends_by
    (λ status. (status ≡ 0) × ((line : List ℕ) × IsDrillLine call.direction call.form call.hex.now line × Appends out out' line))
    (λ fault. IsDrillFault call.direction call.form call.hex.now out out' fault) c.run_drill.result c.status_of.result
    (both_ok _ _ c.run_drill.result c.run_drill.ensures.done c.run_drill.ensures.line) c.run_drill.ensures.fault c.status_of.ensures)

pub returns-in-Vectors : goal.returns-in-Vectors
returns-in-Vectors g c =
    let out = g.W.Write.contents c.args.out.now in
    let out' = g.W.Write.contents c.run_vectors.new.out in
    rw c.in-Vectors.is (ends_by (λ status. WritesReport LibraryGives out out' status) (λ fault. IsVectorsFault LibraryGives out out' fault)
    c.run_vectors.result c.status_of-in-Vectors.result c.run_vectors.ensures.report c.run_vectors.ensures.fault c.status_of-in-Vectors.ensures)
