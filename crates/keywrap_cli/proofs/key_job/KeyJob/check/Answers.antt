-- The line gives the text's kind, in a buffer that was cleared.
use Rattle.keywrap_cli.proofs.Common.{◌≡◌, ap, ◌∙◌, kind_line}
use Rattle.keywrap_cli.proofs.KindLines.{check_line}
use Rattle.keywrap_cli.proofs.key_job.KeyJob.check.Goals as goal

pub returns : goal.returns
returns g c =
    let own = ap (λ m. m.pair) c.new.ensures in
    let w = rw own at c.in-Ok.ensures in
    let line : c.extend_from_slice.new.self.items ≡ kind_line c.in-Ok.found =
    c.in_ok-extend_from_slice.ensures.items ∙ (rw c.clear.ensures.items (c.as_bytes.ensures.value ∙ c.in_ok-line.ensures)) in
    ((c.in-Ok.found, w.kind.is, line, c.kind_note.ensures), check_line _ _ _ c.args.self.now.notation _ c.in-Ok.found w.kind.is line)
