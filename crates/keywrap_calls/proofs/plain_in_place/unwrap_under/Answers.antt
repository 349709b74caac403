-- The meter's pair is the given one (`same`).
use Rattle.std.proofs.Common.{◌≡◌, drop, ap, subst, sym, refl, rules}
use mir.Syntax.{w32}
use mir.Val.{SFits}
use Rattle.keywrap_calls.specs.Status.{outcome_status}
use Rattle.keywrap_calls.specs.Calls.{UnwrapsInPlace}
use Rattle.keywrap_calls.proofs.CallPromises.{unwraps, passed_on}
use Rattle.keywrap_calls.proofs.plain_in_place.unwrap_under.Goals as goal

pub returns-clause-unwraps : goal.returns-clause-unwraps
returns-clause-unwraps g c = λ kek legal_kek.
    let same : g.B.BlockPair.encrypted c.new.result.pair ≡ g.B.BlockPair.encrypted c.args.pair.now = ap (λ m. g.B.BlockPair.encrypted m.pair) c.new.ensures in
    let told = c.unwrap_in_place.ensures.unwraps in
    let left = c.unwrap_in_place.ensures.refused in
    let fits : SFits w32 c.status_of.result = search rules in
    subst (λ status. UnwrapsInPlace (g.B.BlockPair.encrypted c.args.pair.now) kek c.args.buffer.now c.unwrap_in_place.new.buf status)
    (sym (passed_on fits c.status_of.ensures))
    (subst (λ E. UnwrapsInPlace E kek c.args.buffer.now c.unwrap_in_place.new.buf (outcome_status c.unwrap_in_place.result)) same
    (unwraps _ _ _ kek _ _ _ _ _ (λ _. drop 8 c.unwrap_in_place.new.buf) legal_kek told.answer told.only_key told.restores told.other_form left.kept left.cleared (λ _ _. refl)))
