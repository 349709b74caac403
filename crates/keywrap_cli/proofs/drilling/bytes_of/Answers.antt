use Rattle.keywrap_cli.proofs.Drills.{long_text, text_answer}
use Rattle.keywrap_cli.proofs.drilling.bytes_of.Goals as goal

pub returns-then-text-gt-MAX_FILE : goal.returns-then-text-gt-MAX_FILE
returns-then-text-gt-MAX_FILE c = long_text c.args.text.now c.if-text-gt-MAX_FILE.true

pub returns : goal.returns
returns c =
    let e = rw c.as_bytes.ensures.value at c.decode_hex.ensures in
    text_answer c.args.text.now c.decode_hex.result c.map_err.result c.if-text-gt-MAX_FILE.false
    e.bytes e.refused e.memory c.map_err.ensures.cases
