-- A new buffer has the bytes of the input.
use Rattle.std.proofs.Common.{None}
use Rattle.std.specs.Io.Buffered.{reader_remaining}
use Rattle.keywrap_cli.specs.JobReading.{known_keks}
use Rattle.keywrap.proofs.Buffers.{answers_from, remaining_of_new, runs_from}
use Rattle.keywrap.proofs.lines.LineCommand.run_buffered.Goals as goal

pub returns-in-Ok-run_lines-clause-runs : goal.returns-in-Ok-run_lines-clause-runs
returns-in-Ok-run_lines-clause-runs g c =
    let new = c.in-Ok.ensures in
    let same = remaining_of_new (λ it. g.I.Read.remaining it.input.now) _ c.in-Ok.reader new.inner new.empty new.capacity in
    let keks' = known_keks g.K.Read.remaining c.run_lines.new.self.keks in
    runs_from _ _ _ keks' _ _ _ _ _ None None _ same c.in-Ok-run_lines.ensures.run

pub returns-in-Ok-run_lines-clause-answers : goal.returns-in-Ok-run_lines-clause-answers
returns-in-Ok-run_lines-clause-answers g c =
    let new = c.in-Ok.ensures in
    let same = remaining_of_new (λ it. g.I.Read.remaining it.input.now) _ c.in-Ok.reader new.inner new.empty new.capacity in
    let keks = known_keks g.K.Read.remaining c.args.operation.now.keks in
    let keks' = known_keks g.K.Read.remaining c.run_lines.new.self.keks in
    answers_from c.args.operation.now.what c.args.self.options keks keks' _ _ (g.W.Write.contents c.args.out.now) (g.W.Write.contents c.run_lines.new.out) c.in-Ok-run_lines.outcome.result same c.in-Ok-run_lines.ensures.ends_well
