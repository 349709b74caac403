-- The pair in the meter is AES under the KEK (`under`).
use Rattle.std.proofs.Common.{◌≡◌, ℕ, [], take, ap, ◌∙◌, subst, sym, refl, rules, Ok, pos}
use mir.Syntax.{w32}
use mir.Val.{SFits}
use Rattle.key_wrap_core.proofs.Unwrappings.{default_among}
use Rattle.keywrap_calls.specs.Keks.{aes_of}
use Rattle.keywrap_calls.specs.Status.{outcome_status}
use Rattle.keywrap_calls.specs.Calls.{UnwrapsPadded, IsPaddedKey}
use Rattle.keywrap_calls.proofs.CallPromises.{unwraps, passed_on}
use Rattle.keywrap_calls.proofs.padded.unwrap_padded.Goals as goal

pub returns-in-Ok-clause-unwraps : goal.returns-in-Ok-clause-unwraps
returns-in-Ok-clause-unwraps g c =
    let under : g.A.BlockPair.encrypted c.new.result.pair ≡ aes_of c.args.kek.now =
    ap (λ m. g.A.BlockPair.encrypted m.pair) c.new.ensures ∙ c.in-Some.ensures.cipher in
    let told = c.unwrap_padded_into.ensures.unwraps in
    let left = c.unwrap_padded_into.ensures.refused in
    let other_form = default_among (g.A.BlockPair.encrypted c.new.result.pair) c.args.text.now c.unwrap_padded_into.result told.other_form in
    let found : (m : ℕ) → c.unwrap_padded_into.result ≡ Ok m → take m c.unwrap_padded_into.new.key ≡ take c.in-Ok.m c.unwrap_padded_into.new.key =
    λ m is. let same : m ≡ c.in-Ok.m = cc (is, c.in-Ok.is) in ap (λ n. take n c.unwrap_padded_into.new.key) same in
    subst (λ status. UnwrapsPadded (aes_of c.args.kek.now) c.args.kek.now c.args.text.now c.args.key.now c.unwrap_padded_into.new.key c.in-Ok.m status) (ap outcome_status c.in-Ok.is)
    (subst (λ E. UnwrapsPadded E c.args.kek.now c.args.text.now c.args.key.now c.unwrap_padded_into.new.key c.in-Ok.m (outcome_status c.unwrap_padded_into.result)) under
    (unwraps _ _ _ _ _ _ _ _ c.unwrap_padded_into.result (λ m. take m c.unwrap_padded_into.new.key) (c.in-Some.ensures.accepted.0 refl) told.answer told.only_key told.restores other_form left.kept left.cleared found))

pub returns-in-Ok-clause-key : goal.returns-in-Ok-clause-key
returns-in-Ok-clause-key g c =
    let under : g.A.BlockPair.encrypted c.new.result.pair ≡ aes_of c.args.kek.now =
    ap (λ m. g.A.BlockPair.encrypted m.pair) c.new.ensures ∙ c.in-Some.ensures.cipher in
    let told = c.in-Ok.ensures in
    subst (λ E. IsPaddedKey E c.args.text.now (take c.in-Ok.m c.unwrap_padded_into.new.key) [] c.unwrap_padded_into.new.key c.in-Ok.m (pos 0)) under
    (record { no_key = λ no. absurd (no refl); other_values = λ _. told.unwraps.other_form; size = λ _. told.key.size; around = λ _. told.key.around })

pub returns-clause-unwraps : goal.returns-clause-unwraps
returns-clause-unwraps g c =
    let under : g.A.BlockPair.encrypted c.new.result.pair ≡ aes_of c.args.kek.now =
    ap (λ m. g.A.BlockPair.encrypted m.pair) c.new.ensures ∙ c.in-Some.ensures.cipher in
    let told = c.unwrap_padded_into.ensures.unwraps in
    let left = c.unwrap_padded_into.ensures.refused in
    let other_form = default_among (g.A.BlockPair.encrypted c.new.result.pair) c.args.text.now c.unwrap_padded_into.result told.other_form in
    let found : (m : ℕ) → c.unwrap_padded_into.result ≡ Ok m → take m c.unwrap_padded_into.new.key ≡ [] =
    λ m is. absurd (let wrong = sym is ∙ c.in-Err.is in cc) in
    let fits : SFits w32 c.fault_status.result = search rules in
    let same : c.fault_status.result ≡ outcome_status c.unwrap_padded_into.result = c.fault_status.ensures ∙ sym (ap outcome_status c.in-Err.is) in
    subst (λ status. UnwrapsPadded (aes_of c.args.kek.now) c.args.kek.now c.args.text.now c.args.key.now c.unwrap_padded_into.new.key 0 status) (sym (passed_on fits same))
    (subst (λ E. UnwrapsPadded E c.args.kek.now c.args.text.now c.args.key.now c.unwrap_padded_into.new.key 0 (outcome_status c.unwrap_padded_into.result)) under
    (unwraps _ _ _ _ _ _ _ _ c.unwrap_padded_into.result (λ m. take m c.unwrap_padded_into.new.key) (c.in-Some.ensures.accepted.0 refl) told.answer told.only_key told.restores other_form left.kept left.cleared found))
