-- A call gave something else, and the status is 5.
use Rattle.keywrap_cli.proofs.Common.{inr, IfOk-weaker}
use Rattle.keywrap_cli.proofs.toy_and_vectors.run_vectors.Goals as goal

pub returns-else-branch-clause-verdict : goal.returns-else-branch-clause-verdict
returns-else-branch-clause-verdict g c =
    let missed = rw c.if-branch.false at c.in_ok-vectors.ensures.all in
    IfOk-weaker c.flush-else-branch.result _ _ (λ status same. inr (same, missed)) c.flush-else-branch.ensures.status
