use Rattle.keywrap_cli.proofs.Common.{map, take, string_bytes, IsReport, shown}
use Rattle.keywrap_cli.proofs.vector_report.report_on.Given as goal

abbrev pub invariant-loop-vector : goal.invariant-loop-vector
invariant-loop-vector g l =
    IsReport g.C.VectorCalls.gave (map shown (take l.vector-index l.table)) (string_bytes l.report.text) l.report.all_ok
