-- The pair in the meter is AES under the KEK (`under`), and the initial value is the default.
use Rattle.std.proofs.Common.{◌≡◌, ap, ◌∙◌, subst, sym, refl, rules, pos}
use mir.Syntax.{w32}
use mir.Val.{SFits}
use Rattle.keywrap_calls.specs.Keks.{aes_of}
use Rattle.keywrap_calls.specs.Any.{UnwrapsAny}
use Rattle.keywrap_calls.specs.Status.{fault_status}
use Rattle.keywrap_calls.proofs.CallPromises.{passed_on}
use Rattle.keywrap_calls.proofs.AnyForm.{found_any, refused_any}
use Rattle.keywrap_calls.proofs.any_form.unwrap_any.Goals as goal

pub returns-in-Ok : goal.returns-in-Ok
returns-in-Ok g c =
    let under : g.A.BlockPair.encrypted c.new.result.pair ≡ aes_of c.args.kek.now =
    ap (λ m. g.A.BlockPair.encrypted m.pair) c.new.ensures ∙ c.in-Some.ensures.cipher in
    let found = c.in-Ok.found in
    let told = c.in-Ok.ensures in
    subst (λ E. UnwrapsAny E c.args.kek.now c.args.text.now c.args.key.now c.unwrap_any_into.new.key c.flag_of.result found.len (pos 0)) under
    (found_any _ _ _ _ _ c.default.result c.default.ensures (c.in-Some.ensures.accepted.0 refl) found c.flag_of.result told.unwraps.bad_length told.unwraps.integrity
    c.flag_of.ensures.is c.flag_of.ensures.bit told.unwraps.answer told.unwraps.other_form told.key.size told.key.around)

pub returns : goal.returns
returns g c =
    let under : g.A.BlockPair.encrypted c.new.result.pair ≡ aes_of c.args.kek.now =
    ap (λ m. g.A.BlockPair.encrypted m.pair) c.new.ensures ∙ c.in-Some.ensures.cipher in
    let told = c.in-Err.ensures in
    let fits : SFits w32 c.fault_status.result = search rules in
    subst (λ status. UnwrapsAny (aes_of c.args.kek.now) c.args.kek.now c.args.text.now c.args.key.now c.unwrap_any_into.new.key 0 0 status)
    (sym (passed_on fits c.fault_status.ensures))
    (subst (λ E. UnwrapsAny E c.args.kek.now c.args.text.now c.args.key.now c.unwrap_any_into.new.key 0 0 (fault_status c.in-Err.fault)) under
    (refused_any _ _ _ _ _ c.default.result c.default.ensures (c.in-Some.ensures.accepted.0 refl) c.in-Err.fault told.unwraps.bad_length told.unwraps.integrity
    told.unwraps.accepts told.refused.kept told.refused.cleared))
