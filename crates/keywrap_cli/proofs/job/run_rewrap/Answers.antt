-- Both KEKs were read, and the run says the rest, or one was refused.
use Rattle.keywrap_cli.proofs.Common.{Ok, Err, ap, false, refl, by_default, two_keks}
use Rattle.key_wrap_core.specs.declared.rewrapping.RewrapForms.TheVariants.{Changed}
use Rattle.keywrap_cli.specs.declared.what.What.TheVariants.{Rewrap}
use Rattle.keywrap_cli.proofs.Answered.{headline, refused_run, whole_run}
use Rattle.keywrap_cli.proofs.job.run_rewrap.Goals as goal

pub returns-in-Ok-run-clause-run : goal.returns-in-Ok-run-clause-run
returns-in-Ok-run-clause-run g c =
    let what = Rewrap (Changed (by_default c.args.old_form) (by_default c.args.new_form)) false in
    let keks = two_keks c.args.kek_notation (g.K.Read.remaining c.args.old_kek.now) (g.N.Read.remaining c.args.new_kek.now) in
    let keks' = two_keks c.args.kek_notation (g.K.Read.remaining c.read_keks.new.file) (g.N.Read.remaining c.read_keks.new.new_file) in
    let run = rw c.by_default.ensures at c.in-Ok-run.ensures in
    (Ok c.in-Ok-run.done, whole_run what _ keks keks' c.in-Ok.ciphers _ _ _ _ _ c.in-Ok.ensures run, refl)

pub returns-in-Ok-run-clause-headline : goal.returns-in-Ok-run-clause-headline
returns-in-Ok-run-clause-headline g c = λ ok.
    let what = Rewrap (Changed (by_default c.args.old_form) (by_default c.args.new_form)) false in
    let keks = two_keks c.args.kek_notation (g.K.Read.remaining c.args.old_kek.now) (g.N.Read.remaining c.args.new_kek.now) in
    let keks' = two_keks c.args.kek_notation (g.K.Read.remaining c.read_keks.new.file) (g.N.Read.remaining c.read_keks.new.new_file) in
    let run = rw c.by_default.ensures at c.in-Ok-run.ensures in
    headline what _ keks keks' _ _ _ _ (Ok c.in-Ok-run.done) (whole_run what _ keks keks' c.in-Ok.ciphers _ _ _ _ _ c.in-Ok.ensures run) ok

pub returns-in-Err-run-clause-run : goal.returns-in-Err-run-clause-run
returns-in-Err-run-clause-run g c =
    let what = Rewrap (Changed (by_default c.args.old_form) (by_default c.args.new_form)) false in
    let keks = two_keks c.args.kek_notation (g.K.Read.remaining c.args.old_kek.now) (g.N.Read.remaining c.args.new_kek.now) in
    let keks' = two_keks c.args.kek_notation (g.K.Read.remaining c.read_keks.new.file) (g.N.Read.remaining c.read_keks.new.new_file) in
    let run = rw c.by_default.ensures at c.in-Err-run.ensures in
    (Err c.in-Err-run.fault, whole_run what _ keks keks' c.in-Ok.ciphers _ _ _ _ _ c.in-Ok.ensures run, ap Err c.without_cause.ensures)

pub returns-in-Err-clause-run : goal.returns-in-Err-clause-run
returns-in-Err-clause-run g c =
    let what = Rewrap (Changed (by_default c.args.old_form) (by_default c.args.new_form)) false in
    let keks = two_keks c.args.kek_notation (g.K.Read.remaining c.args.old_kek.now) (g.N.Read.remaining c.args.new_kek.now) in
    let keks' = two_keks c.args.kek_notation (g.K.Read.remaining c.read_keks.new.file) (g.N.Read.remaining c.read_keks.new.new_file) in
    (Err c.in-Err.fault, refused_run what _ keks keks' _ _ c.in-Err.fault c.in-Err.ensures, ap Err c.without_cause-in-Err.ensures)
