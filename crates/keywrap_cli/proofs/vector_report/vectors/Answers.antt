-- The report is on the published vectors (`published`).
use Rattle.std.proofs.Common.{◌≡◌}
use Rattle.keywrap_cli.proofs.Reports.{front_of_report, on_all}
use Rattle.keywrap_cli.proofs.vector_report.vectors.Goals as goal

pub returns-in-Ok-write_raw-clause-all : goal.returns-in-Ok-write_raw-clause-all
returns-in-Ok-write_raw-clause-all g c =
    on_all g.C.VectorCalls.gave _ _ c.in-Ok.report.all_ok (rw c.published.ensures at c.in-Ok.ensures)

pub returns-clause-front : goal.returns-clause-front
returns-clause-front g c = λ written e.
    let same : c.in-Err.fault.written ≡ written = cc in
    let front = c.in-Err.ensures in
    front_of_report g.C.VectorCalls.gave _ _ _ _ _ c.in-Err.fault.written written c.in-Ok.report.all_ok (rw c.published.ensures at c.in-Ok.ensures) same
    c.as_bytes.ensures.value front.short front.front
