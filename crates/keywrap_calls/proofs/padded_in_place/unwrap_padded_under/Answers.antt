-- The meter's pair is the given one (`same_pair`).
use Rattle.std.proofs.Common.{◌≡◌, ℕ, [], replicate, ap, subst, sym, refl, rules, Ok, pos, ◌∙◌}
use mir.Syntax.{w32}
use mir.Val.{SFits}
use Rattle.key_wrap_core.specs.InPlace.{key_in}
use Rattle.key_wrap_core.proofs.Unwrappings.{default_among}
use Rattle.keywrap_calls.specs.Status.{outcome_status}
use Rattle.keywrap_calls.specs.Calls.{UnwrapsPaddedInPlace, IsPaddedKey}
use Rattle.keywrap_calls.proofs.CallPromises.{unwraps, passed_on}
use Rattle.keywrap_calls.proofs.padded_in_place.unwrap_padded_under.Goals as goal

pub returns-in-Ok-clause-unwraps : goal.returns-in-Ok-clause-unwraps
returns-in-Ok-clause-unwraps g c = λ kek legal_kek.
    let same_pair : g.B.BlockPair.encrypted c.new.result.pair ≡ g.B.BlockPair.encrypted c.args.pair.now = ap (λ m. g.B.BlockPair.encrypted m.pair) c.new.ensures in
    let told = c.unwrap_padded_in_place.ensures.unwraps in
    let left = c.unwrap_padded_in_place.ensures.refused in
    let other_form = default_among (g.B.BlockPair.encrypted c.new.result.pair) c.args.buffer.now c.unwrap_padded_in_place.result told.other_form in
    let found : (m : ℕ) → c.unwrap_padded_in_place.result ≡ Ok m → key_in m c.unwrap_padded_in_place.new.buf ≡ key_in c.in-Ok.m c.unwrap_padded_in_place.new.buf =
    λ m is. let same : m ≡ c.in-Ok.m = cc (is, c.in-Ok.is) in ap (λ n. key_in n c.unwrap_padded_in_place.new.buf) same in
    subst (λ status. UnwrapsPaddedInPlace (g.B.BlockPair.encrypted c.args.pair.now) kek c.args.buffer.now c.unwrap_padded_in_place.new.buf c.in-Ok.m status) (ap outcome_status c.in-Ok.is)
    (subst (λ E. UnwrapsPaddedInPlace E kek c.args.buffer.now c.unwrap_padded_in_place.new.buf c.in-Ok.m (outcome_status c.unwrap_padded_in_place.result)) same_pair
    (unwraps _ _ _ kek _ _ _ _ c.unwrap_padded_in_place.result (λ m. key_in m c.unwrap_padded_in_place.new.buf) legal_kek told.answer told.only_key told.restores other_form left.kept left.cleared found))

pub returns-in-Ok-clause-key : goal.returns-in-Ok-clause-key
returns-in-Ok-clause-key g c =
    let same_pair : g.B.BlockPair.encrypted c.new.result.pair ≡ g.B.BlockPair.encrypted c.args.pair.now = ap (λ m. g.B.BlockPair.encrypted m.pair) c.new.ensures in
    let told = c.in-Ok.ensures in
    subst (λ E. IsPaddedKey E c.args.buffer.now (key_in c.in-Ok.m c.unwrap_padded_in_place.new.buf) (replicate 8 0) c.unwrap_padded_in_place.new.buf c.in-Ok.m (pos 0)) same_pair
    (record { no_key = λ no. absurd (no refl); other_values = λ _. told.unwraps.other_form; size = λ _. told.key.size; around = λ _. told.key.around })

pub returns-in-Err-clause-unwraps : goal.returns-in-Err-clause-unwraps
returns-in-Err-clause-unwraps g c = λ kek legal_kek.
    let same_pair : g.B.BlockPair.encrypted c.new.result.pair ≡ g.B.BlockPair.encrypted c.args.pair.now = ap (λ m. g.B.BlockPair.encrypted m.pair) c.new.ensures in
    let told = c.unwrap_padded_in_place.ensures.unwraps in
    let left = c.unwrap_padded_in_place.ensures.refused in
    let other_form = default_among (g.B.BlockPair.encrypted c.new.result.pair) c.args.buffer.now c.unwrap_padded_in_place.result told.other_form in
    let found : (m : ℕ) → c.unwrap_padded_in_place.result ≡ Ok m → key_in m c.unwrap_padded_in_place.new.buf ≡ [] =
    λ m is. absurd (let wrong = sym is ∙ c.in-Err.is in cc) in
    let fits : SFits w32 c.fault_status.result = search rules in
    let same : c.fault_status.result ≡ outcome_status c.unwrap_padded_in_place.result = c.fault_status.ensures ∙ sym (ap outcome_status c.in-Err.is) in
    subst (λ status. UnwrapsPaddedInPlace (g.B.BlockPair.encrypted c.args.pair.now) kek c.args.buffer.now c.unwrap_padded_in_place.new.buf 0 status) (sym (passed_on fits same))
    (subst (λ E. UnwrapsPaddedInPlace E kek c.args.buffer.now c.unwrap_padded_in_place.new.buf 0 (outcome_status c.unwrap_padded_in_place.result)) same_pair
    (unwraps _ _ _ kek _ _ _ _ c.unwrap_padded_in_place.result (λ m. key_in m c.unwrap_padded_in_place.new.buf) legal_kek told.answer told.only_key told.restores other_form left.kept left.cleared found))
