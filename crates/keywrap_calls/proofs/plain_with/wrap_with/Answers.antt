-- The pair in the meter is AES under the KEK (`under`).
use Rattle.std.proofs.Common.{◌≡◌, length, ap, ◌∙◌, subst, sym, refl, rules}
use mir.Syntax.{w32}
use mir.Val.{SFits}
use Rattle.key_wrap_core.specs.Plain.{Plain}
use Rattle.key_wrap_core.specs.InPlace.{ArePlainLengths}
use Rattle.keywrap_calls.specs.Keks.{aes_of}
use Rattle.keywrap_calls.specs.Status.{outcome_status}
use Rattle.keywrap_calls.specs.AgreedValue.{iv_word}
use Rattle.keywrap_calls.specs.Calls.{WrapsWith, IsWrapCall}
use Rattle.keywrap_calls.proofs.CallPromises.{wraps, called_with, passed_on}
use Rattle.keywrap_calls.proofs.Lengths.{plain_lengths-not_refused}
use Rattle.keywrap_calls.proofs.plain_with.wrap_with.Goals as goal

pub returns : goal.returns
returns g c =
    let under : g.A.BlockPair.encrypted c.new.result.pair ≡ aes_of c.args.kek.now =
    ap (λ m. g.A.BlockPair.encrypted m.pair) c.new.ensures ∙ c.in-Some-aes_of.ensures.cipher in
    let legal_kek = c.in-Some-aes_of.ensures.accepted.0 refl in
    let told = c.wrap_into_with.ensures.wraps in
    let fits : SFits w32 c.status_of.result = search rules in
    let word : c.in-Some.value ≡ iv_word c.args.iv.now = c.in-Some.ensures.given.1 in
    let of_value =
    subst (λ E. IsWrapCall (ArePlainLengths (length c.args.key.now) (length c.args.text.now)) (Plain E c.in-Some.value) c.args.kek.now c.args.key.now c.args.text.now c.wrap_into_with.new.text (outcome_status c.wrap_into_with.result)) under
    (wraps _ _ _ _ _ _ _ legal_kek (plain_lengths-not_refused _ _) told.bad_length told.only_fault told.kept told.answer told.only_text) in
    let call =
    subst (λ v. IsWrapCall (ArePlainLengths (length c.args.key.now) (length c.args.text.now)) (Plain (aes_of c.args.kek.now) v) c.args.kek.now c.args.key.now c.args.text.now c.wrap_into_with.new.text (outcome_status c.wrap_into_with.result)) word of_value in
    subst (λ status. WrapsWith (aes_of c.args.kek.now) c.args.kek.now c.args.iv.now c.args.key.now c.args.text.now c.wrap_into_with.new.text status)
    (sym (passed_on fits c.status_of.ensures))
    (called_with _ _ _ _ c.wrap_into_with.result c.in-Some.ensures.given.0 call)
