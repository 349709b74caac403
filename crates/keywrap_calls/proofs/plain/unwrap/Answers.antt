-- The pair in the meter is AES under the KEK (`under`).
use Rattle.std.proofs.Common.{◌≡◌, ap, ◌∙◌, subst, sym, refl, rules}
use mir.Syntax.{w32}
use mir.Val.{SFits}
use Rattle.keywrap_calls.specs.Keks.{aes_of}
use Rattle.keywrap_calls.specs.Status.{outcome_status}
use Rattle.keywrap_calls.specs.Calls.{UnwrapsPlain}
use Rattle.keywrap_calls.proofs.CallPromises.{unwraps, passed_on}
use Rattle.keywrap_calls.proofs.plain.unwrap.Goals as goal

pub returns : goal.returns
returns g c =
    let under : g.A.BlockPair.encrypted c.new.result.pair ≡ aes_of c.args.kek.now =
    ap (λ m. g.A.BlockPair.encrypted m.pair) c.new.ensures ∙ c.in-Some.ensures.cipher in
    let legal_kek = c.in-Some.ensures.accepted.0 refl in
    let told = c.unwrap_into.ensures.unwraps in
    let left = c.unwrap_into.ensures.refused in
    let fits : SFits w32 c.status_of.result = search rules in
    subst (λ status. UnwrapsPlain (aes_of c.args.kek.now) c.args.kek.now c.args.text.now c.args.key.now c.unwrap_into.new.key status) (sym (passed_on fits c.status_of.ensures))
    (subst (λ E. UnwrapsPlain E c.args.kek.now c.args.text.now c.args.key.now c.unwrap_into.new.key (outcome_status c.unwrap_into.result)) under
    (unwraps _ _ _ _ _ _ _ _ _ (λ _. c.unwrap_into.new.key) legal_kek told.answer told.only_key told.restores told.other_form left.kept left.cleared (λ _ _. refl)))
