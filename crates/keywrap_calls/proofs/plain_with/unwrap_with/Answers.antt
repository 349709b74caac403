-- The pair in the meter is AES under the KEK (`under`).
use Rattle.std.proofs.Common.{◌≡◌, length, ap, ◌∙◌, subst, sym, refl, rules}
use mir.Syntax.{w32}
use mir.Val.{SFits}
use Rattle.key_wrap_core.specs.Plain.{Plain}
use Rattle.key_wrap_core.specs.Padded.{Padded}
use Rattle.key_wrap_core.specs.InPlace.{ArePlainLengths}
use Rattle.keywrap_calls.specs.Keks.{aes_of}
use Rattle.keywrap_calls.specs.Status.{outcome_status}
use Rattle.keywrap_calls.specs.AgreedValue.{iv_word}
use Rattle.keywrap_calls.specs.Calls.{UnwrapsWith, IsUnwrapCall}
use Rattle.keywrap_calls.proofs.CallPromises.{unwraps, called_with, passed_on}
use Rattle.keywrap_calls.proofs.plain_with.unwrap_with.Goals as goal

pub returns : goal.returns
returns g c =
    let under : g.A.BlockPair.encrypted c.new.result.pair ≡ aes_of c.args.kek.now =
    ap (λ m. g.A.BlockPair.encrypted m.pair) c.new.ensures ∙ c.in-Some-aes_of.ensures.cipher in
    let legal_kek = c.in-Some-aes_of.ensures.accepted.0 refl in
    let told = c.unwrap_into_with.ensures.unwraps in
    let left = c.unwrap_into_with.ensures.refused in
    let fits : SFits w32 c.status_of.result = search rules in
    let word : c.in-Some.value ≡ iv_word c.args.iv.now = c.in-Some.ensures.given.1 in
    let of_value =
    subst (λ E. IsUnwrapCall (ArePlainLengths (length c.args.key.now) (length c.args.text.now)) (Plain E c.in-Some.value) (Padded E) c.args.kek.now c.args.text.now c.unwrap_into_with.new.key c.args.key.now c.unwrap_into_with.new.key (outcome_status c.unwrap_into_with.result)) under
    (unwraps _ _ _ _ _ _ _ _ _ (λ _. c.unwrap_into_with.new.key) legal_kek told.answer told.only_key told.restores told.other_form left.kept left.cleared (λ _ _. refl)) in
    let call =
    subst (λ v. IsUnwrapCall (ArePlainLengths (length c.args.key.now) (length c.args.text.now)) (Plain (aes_of c.args.kek.now) v) (Padded (aes_of c.args.kek.now)) c.args.kek.now c.args.text.now c.unwrap_into_with.new.key c.args.key.now c.unwrap_into_with.new.key (outcome_status c.unwrap_into_with.result)) word of_value in
    subst (λ status. UnwrapsWith (aes_of c.args.kek.now) c.args.kek.now c.args.iv.now c.args.text.now c.args.key.now c.unwrap_into_with.new.key status)
    (sym (passed_on fits c.status_of.ensures))
    (called_with _ _ _ _ c.unwrap_into_with.result c.in-Some.ensures.given.0 call)
