-- The pair in the meter is AES under the KEK (`under`).
use Rattle.std.proofs.Common.{◌≡◌, ap, ◌∙◌, subst, sym, refl, rules}
use mir.Syntax.{w32}
use mir.Val.{SFits}
use Rattle.keywrap_calls.specs.Keks.{aes_of}
use Rattle.keywrap_calls.specs.Status.{outcome_status}
use Rattle.keywrap_calls.specs.Calls.{WrapsPadded}
use Rattle.keywrap_calls.proofs.CallPromises.{wraps, passed_on}
use Rattle.keywrap_calls.proofs.Lengths.{room-not_refused}
use Rattle.keywrap_calls.proofs.padded.wrap_padded.Goals as goal

pub returns : goal.returns
returns g c =
    let under : g.A.BlockPair.encrypted c.new.result.pair ≡ aes_of c.args.kek.now =
    ap (λ m. g.A.BlockPair.encrypted m.pair) c.new.ensures ∙ c.in-Some.ensures.cipher in
    let legal_kek = c.in-Some.ensures.accepted.0 refl in
    let told = c.wrap_padded_into.ensures.wraps in
    let fits : SFits w32 c.status_of.result = search rules in
    subst (λ status. WrapsPadded (aes_of c.args.kek.now) c.args.kek.now c.args.key.now c.args.text.now c.wrap_padded_into.new.text status) (sym (passed_on fits c.status_of.ensures))
    (subst (λ E. WrapsPadded E c.args.kek.now c.args.key.now c.args.text.now c.wrap_padded_into.new.text (outcome_status c.wrap_padded_into.result)) under
    (wraps _ _ _ _ _ _ _ legal_kek (room-not_refused _ _) told.bad_length told.only_fault told.kept told.answer told.only_text))
