-- What the kit's engine of the text's encoding decodes, if no character is misplaced.
use Rattle.std.proofs.Common.{◌≡◌, subst, sym, ◌∙◌}
use Rattle.std.specs.Prelude.{[]}
use Rattle.key_files.specs.declared.fault.FileFault.TheVariants.{Memory}
use Rattle.key_files.specs.declared.hex_text.Blanks.TheVariants.{Refused}
use Rattle.key_files.proofs.Denoting.{none_from}
use Rattle.key_files.proofs.Base64.{DecodesText-base64, IsBase64Of-decoded, IsOfBase64, of_engine, of_misplaced}
use Rattle.key_files.proofs.Base64.{symbol_text_meaning-misplaced, symbol_text_meaning-placed, symbols_meaning-is}
use Rattle.key_files.proofs.Base64Back.{symbol_text_meaning-accepts}
use Rattle.key_files.proofs.base64_text.decode_symbols_into.Goals as goal

pub returns-in-Some-clause-meaning : goal.returns-in-Some-clause-meaning
returns-in-Some-clause-meaning c =
    let found = sym c.in-Some.ensures.first in
    DecodesText-base64 _ [] c.in-Some.fault (of_misplaced Refused c.args.text.now c.in-Some.fault found)
    (symbol_text_meaning-misplaced c.args.text.now c.in-Some.fault found)

pub returns-in-Some-clause-memory : goal.returns-in-Some-clause-memory
returns-in-Some-clause-memory c = λ e.
    let same : c.in-Some.fault ≡ Memory = cc e in
    absurd (subst IsOfBase64 same (of_misplaced Refused c.args.text.now c.in-Some.fault (sym c.in-Some.ensures.first)))

pub returns-in-Ok-clause-meaning : goal.returns-in-Ok-clause-meaning
returns-in-Ok-clause-meaning c =
    let placed = sym c.misplaced.ensures.first ∙ none_from _ c.in_default.not-Some in
    symbol_text_meaning-placed _ placed
    ∙ symbols_meaning-is c.encoding_of.result c.args.text.now _ c.encoding_of.ensures (rw c.clear.ensures.len at c.in-Ok.ensures.ok)

pub returns-in-Err-DecodeError-clause-meaning : goal.returns-in-Err-DecodeError-clause-meaning
returns-in-Err-DecodeError-clause-meaning c =
    let placed = sym c.misplaced.ensures.first ∙ none_from _ c.in_default.not-Some in
    let refused = rw c.in-Err-DecodeError.field-0-is at c.in-Err-DecodeError.ensures.err in
    rw c.fault_of.ensures.fault (DecodesText-base64 _ [] _ (of_engine c.in-Err-DecodeError.error) (symbol_text_meaning-placed _ placed
    ∙ symbols_meaning-is c.encoding_of.result c.args.text.now _ c.encoding_of.ensures refused))

pub returns-in-Ok-clause-encoding : goal.returns-in-Ok-clause-encoding
returns-in-Ok-clause-encoding c =
    IsBase64Of-decoded c.encoding_of.result c.args.text.now _ c.encoding_of.ensures (λ k. (c.type_inv.text k).fits)
    (rw c.clear.ensures.len at c.in-Ok.ensures.ok)

pub returns-in-Some-clause-accepted : goal.returns-in-Some-clause-accepted
returns-in-Some-clause-accepted c = symbol_text_meaning-accepts c.args.text.now

pub returns-in-Ok-clause-accepted : goal.returns-in-Ok-clause-accepted
returns-in-Ok-clause-accepted c = symbol_text_meaning-accepts c.args.text.now

pub returns-in-Err-OutOfMemory-clause-accepted : goal.returns-in-Err-OutOfMemory-clause-accepted
returns-in-Err-OutOfMemory-clause-accepted c = symbol_text_meaning-accepts c.args.text.now

pub returns-in-Err-DecodeError-clause-accepted : goal.returns-in-Err-DecodeError-clause-accepted
returns-in-Err-DecodeError-clause-accepted c = symbol_text_meaning-accepts c.args.text.now
