-- The KEK was read, and the run says the rest.
use Rattle.keywrap_cli.specs.Job.{what_of}
use Rattle.keywrap_cli.specs.JobReading.{one_kek}
use Rattle.keywrap_cli.proofs.Answered.{headline, whole_run}
use Rattle.keywrap_cli.proofs.job.run_job.Goals as goal

pub returns-clause-headline : goal.returns-clause-headline
returns-clause-headline g c = λ ok.
    let what = what_of c.args.task.job c.args.task.form in
    let keks = one_kek c.args.task.kek (g.K.Read.remaining c.args.kek.now) in
    let keks' = one_kek c.args.task.kek (g.K.Read.remaining c.read_kek.new.file) in
    let run = rw c.what.ensures at c.run.ensures in
    headline what _ keks keks' _ _ _ _ _ (whole_run what _ keks keks' c.in_ok-read_kek.field-0 _ _ _ _ _ c.in_ok-read_kek.ensures run) ok
