-- The KEKs were read, and the run says the rest.
use Rattle.keywrap_cli.specs.JobReading.{known_keks}
use Rattle.keywrap_cli.proofs.Answered.{headline, whole_run}
use Rattle.keywrap_cli.proofs.EndsWell.{whole_ends_well}
use Rattle.keywrap_cli.proofs.operation.Operation.run.Goals as goal

pub returns-in-Ok-run-clause-run : goal.returns-in-Ok-run-clause-run
returns-in-Ok-run-clause-run g c =
    let keks = known_keks g.K.Read.remaining c.args.self.now.keks in
    let keks' = known_keks g.K.Read.remaining c.read.new.self in
    whole_run _ _ keks keks' c.in-Ok.ciphers _ _ _ _ _ c.in-Ok.ensures.opens c.in-Ok-run.ensures

pub returns-in-Ok-run-clause-headline : goal.returns-in-Ok-run-clause-headline
returns-in-Ok-run-clause-headline g c = λ ok.
    let keks = known_keks g.K.Read.remaining c.args.self.now.keks in
    let keks' = known_keks g.K.Read.remaining c.read.new.self in
    headline _ _ keks keks' _ _ _ _ _ (whole_run _ _ keks keks' c.in-Ok.ciphers _ _ _ _ _ c.in-Ok.ensures.opens c.in-Ok-run.ensures) ok

pub returns-in-Ok-run-clause-ends_well : goal.returns-in-Ok-run-clause-ends_well
returns-in-Ok-run-clause-ends_well g c = λ is.
    let keks = known_keks g.K.Read.remaining c.args.self.now.keks in
    let keks' = known_keks g.K.Read.remaining c.read.new.self in
    whole_ends_well _ _ keks keks' _ _ _ _ (whole_run _ _ keks keks' c.in-Ok.ciphers _ _ _ _ _ c.in-Ok.ensures.opens (rw is at c.in-Ok-run.ensures))
