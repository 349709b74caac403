-- The meter's pair is the given one (`same`).
use Rattle.std.proofs.Common.{◌≡◌, ap, subst, sym, rules}
use mir.Syntax.{w32}
use mir.Val.{SFits}
use Rattle.keywrap_calls.specs.Status.{outcome_status}
use Rattle.keywrap_calls.specs.Calls.{WrapsInPlace}
use Rattle.keywrap_calls.proofs.CallPromises.{wraps, passed_on}
use Rattle.keywrap_calls.proofs.Lengths.{plain_text-not_refused}
use Rattle.keywrap_calls.proofs.plain_in_place.wrap_under.Goals as goal

pub returns : goal.returns
returns g c = λ kek legal_kek.
    let same : g.B.BlockPair.encrypted c.new.result.pair ≡ g.B.BlockPair.encrypted c.args.pair.now = ap (λ m. g.B.BlockPair.encrypted m.pair) c.new.ensures in
    let told = c.wrap_in_place.ensures.wraps in
    let fits : SFits w32 c.status_of.result = search rules in
    subst (λ status. WrapsInPlace (g.B.BlockPair.encrypted c.args.pair.now) kek c.args.buffer.now c.wrap_in_place.new.buf status) (sym (passed_on fits c.status_of.ensures))
    (subst (λ E. WrapsInPlace E kek c.args.buffer.now c.wrap_in_place.new.buf (outcome_status c.wrap_in_place.result)) same
    (wraps _ _ kek _ _ _ _ legal_kek (plain_text-not_refused _) told.bad_length told.only_fault told.kept told.answer told.only_text))
