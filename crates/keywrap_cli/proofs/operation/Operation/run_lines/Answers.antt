-- The KEKs were read, and then each line was answered.
use Rattle.keywrap_cli.specs.JobReading.{known_keks}
use Rattle.keywrap_cli.proofs.EndsWell.{lines_end_well, lines_run, lines_written}
use Rattle.keywrap_cli.proofs.operation.Operation.run_lines.Goals as goal

pub returns-clause-run : goal.returns-clause-run
returns-clause-run g c =
    let job = c.job-job.ensures in
    let over = rw (job.0, job.1, job.2, job.3, c.line_notation-notation.ensures) at c.run-result.ensures in
    let keks = known_keks g.K.Read.remaining c.args.self.now.keks in
    let keks' = known_keks g.K.Read.remaining c.read.new.self in
    lines_run _ _ keks keks' c.in-Ok.ciphers c.in-Ok.ensures.opens _ _ _ _ _ _ _ over.run over.headline

pub returns-clause-headline : goal.returns-clause-headline
returns-clause-headline g c =
    let job = c.job-job.ensures in
    let over = rw (job.0, job.1, job.2, job.3, c.line_notation-notation.ensures) at c.run-result.ensures in
    let keks = known_keks g.K.Read.remaining c.args.self.now.keks in
    let keks' = known_keks g.K.Read.remaining c.read.new.self in
    lines_written _ _ keks keks' c.in-Ok.ciphers c.in-Ok.ensures.opens _ _ _ _ over.headline

pub returns-clause-ends_well : goal.returns-clause-ends_well
returns-clause-ends_well g c =
    let job = c.job-job.ensures in
    let over = rw (job.0, job.1, job.2, job.3, c.line_notation-notation.ensures) at c.run-result.ensures in
    let keks = known_keks g.K.Read.remaining c.args.self.now.keks in
    let keks' = known_keks g.K.Read.remaining c.read.new.self in
    lines_end_well _ _ keks keks' c.in-Ok.ciphers c.in-Ok.ensures.opens _ _ _ c.run-result.result over.headline
