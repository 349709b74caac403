use Rattle.test_vectors.specs.Vectors.{shown}
use Rattle.keywrap_cli.proofs.Reports.{report_step}
use Rattle.keywrap_cli.proofs.vector_report.report_on.Goals as goal

pub loop-vector-preserved : goal.loop-vector-preserved
loop-vector-preserved g c =
    report_step g.C.VectorCalls.gave shown c.args.table.now c.loop-vector.vector-index _ (_) _ _ _ c.in_ok-ok.ok c.loop-vector-test.true
    c.loop-vector.invariant c.in_ok-ok.ensures c.in_ok-add_line.ensures.line c.in_ok-add_line.ensures.all
