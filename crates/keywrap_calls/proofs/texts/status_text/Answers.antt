-- The copied bytes are the start of the text of the status (`is`), as many as fit.
use Rattle.std.proofs.Common.{◌≡◌, ◌∙◌, ap, ap₂, length, take, min, rules}
use Rattle.keywrap_calls.specs.StatusTexts.{status_text_of}
use Rattle.keywrap_calls.proofs.Endings.{ended}
use Rattle.keywrap_calls.proofs.texts.status_text.Goals as goal

pub returns-in-Some-clause-written : goal.returns-in-Some-clause-written
returns-in-Some-clause-written c = λ some.
    let is : c.words_of-words.result.now ≡ status_text_of c.args.status = search (rules, c.words_of-words.ensures.text) in
    ended _ _ _ _ some (c.min-cut.ensures ∙ ap₂ min (c.in-Some.ensures.1) (ap length is))
    (c.copy_from_slice.ensures.after ∙ ap (take c.min-cut.result) is)
