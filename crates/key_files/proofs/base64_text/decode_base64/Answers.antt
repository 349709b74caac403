-- What the kit's engine of the text's encoding decodes of the text without blanks, if no character is misplaced.
use Rattle.key_files.proofs.Common.{◌≡◌, subst, sym, ◌∙◌, kept}
use Rattle.key_files.specs.declared.fault.FileFault.TheVariants.{Read}
use Rattle.key_files.specs.declared.hex_text.Blanks.TheVariants.{Allowed}
use Rattle.key_files.proofs.Denoting.{none_from}
use Rattle.key_files.proofs.Base64.{IsMeaning-fault, IsOfBase64, base64_meaning-misplaced, base64_meaning-placed, of_engine, of_misplaced, symbols_meaning-is}
use Rattle.key_files.proofs.base64_text.decode_base64.Goals as goal

pub returns-in-Some-clause-meaning : goal.returns-in-Some-clause-meaning
returns-in-Some-clause-meaning g c =
    IsMeaning-fault _ c.in-Some.fault (base64_meaning-misplaced c.args.text.now c.in-Some.fault (sym c.in-Some.ensures.first))

pub returns-in-Some-clause-unread : goal.returns-in-Some-clause-unread
returns-in-Some-clause-unread g c = λ e.
    let same : c.in-Some.fault ≡ Read = cc e in
    subst IsOfBase64 same (of_misplaced Allowed c.args.text.now c.in-Some.fault (sym c.in-Some.ensures.first))

pub returns-in-Ok-clause-meaning : goal.returns-in-Ok-clause-meaning
returns-in-Ok-clause-meaning g c =
    let placed = sym c.misplaced.ensures.first ∙ none_from _ c.in_default.not-Some in
    let same = c.deref.ensures.value ∙ c.in_ok-kept.ensures in
    let encoding = rw same at c.encoding_of.ensures in
    let decoded = rw (c.deref-2.ensures.value ∙ c.in_ok-kept.ensures) at c.in-Ok.ensures.ok in
    base64_meaning-placed c.args.text.now placed ∙ symbols_meaning-is c.encoding_of.result (kept c.args.text.now) _ encoding decoded

pub returns-clause-meaning : goal.returns-clause-meaning
returns-clause-meaning g c =
    let placed = sym c.misplaced.ensures.first ∙ none_from _ c.in_default.not-Some in
    let same = c.deref.ensures.value ∙ c.in_ok-kept.ensures in
    let encoding = rw same at c.encoding_of.ensures in
    let refused = rw c.in-Err-DecodeError.field-0-is at c.in-Err-DecodeError.ensures.err in
    let decoded = rw (c.deref-2.ensures.value ∙ c.in_ok-kept.ensures) at refused in
    rw c.fault_of.ensures.fault (IsMeaning-fault _ _ (base64_meaning-placed c.args.text.now placed
    ∙ symbols_meaning-is c.encoding_of.result (kept c.args.text.now) _ encoding decoded))

pub returns-clause-unread : goal.returns-clause-unread
returns-clause-unread g c = λ e.
    let same : c.fault_of.result ≡ Read = cc e in
    subst IsOfBase64 (sym c.fault_of.ensures.fault ∙ same) (of_engine c.in-Err-DecodeError.error)
