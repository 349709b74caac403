-- The line that was written, whole or up to its front, stays in the writer when it is flushed.
use Rattle.keywrap_cli.proofs.Common.{ap, Appends-kept, IfOk-weaker, hex_line, hex_fault_of}
use Rattle.keywrap_cli.proofs.CutOff.{at_fault, at_flush, line_cut_off}
use Rattle.keywrap_cli.proofs.toy_and_vectors.run_drill.Goals as goal

pub returns-clause-line : goal.returns-clause-line
returns-clause-line g c =
    let written = Appends-kept _ _ _ _ c.in_ok-write_hex.ensures.whole c.flush.ensures.kept in
    IfOk-weaker c.flush.result _ _
    (λ status same. (hex_line c.deref.result.now, (c.in-Ok.bytes, c.in-Ok.ensures.answer, ap hex_line c.deref.ensures.value), written))
    c.flush.ensures.status

pub returns-in_err-write_hex-clause-fault : goal.returns-in_err-write_hex-clause-fault
returns-in_err-write_hex-clause-fault g c =
    let write = c.in_err-write_hex.field-0.0 in
    at_fault c.from_residual.result _ (hex_fault_of write) c.from_residual.ensures.1
    (line_cut_off c.args.direction c.args.form c.args.text.now c.in-Ok.bytes _ _ _ write c.in-Ok.ensures.answer c.deref.ensures.value
    c.in_err-write_hex.ensures)

pub returns-clause-fault : goal.returns-clause-fault
returns-clause-fault g c =
    let written = Appends-kept _ _ _ _ c.in_ok-write_hex.ensures.whole c.flush.ensures.kept in
    at_flush c.flush.result _ c.flush.ensures.fault
    (hex_line c.deref.result.now, (c.in-Ok.bytes, c.in-Ok.ensures.answer, ap hex_line c.deref.ensures.value), written)
