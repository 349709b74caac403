-- A run that is refused before a file is opened.
use Rattle.keywrap.proofs.Committed.{input_is_lost, output_is_lost, raw_refused}
use Rattle.keywrap.proofs.session.Session.attempt.Goals as goal

pub returns-then-writes_raw_to_terminal-clause-ends : goal.returns-then-writes_raw_to_terminal-clause-ends
returns-then-writes_raw_to_terminal-clause-ends g c =
    raw_refused _ c.without_file.ensures (c.writes_raw_to_terminal.ensures.0 c.if-writes_raw_to_terminal.true)

pub returns-in-Err-Input-clause-ends : goal.returns-in-Err-Input-clause-ends
returns-in-Err-Input-clause-ends g c =
    input_is_lost _ c.without_file-in-Err-Input.ensures (rw c.in-Err-Input.field-0-is at c.in-Err-Input.ensures)

pub returns-in-Err-Output-clause-ends : goal.returns-in-Err-Output-clause-ends
returns-in-Err-Output-clause-ends g c =
    output_is_lost _ c.without_file-in-Err-Output.ensures (rw c.in-Err-Output.field-0-is at c.in-Err-Output.ensures)
