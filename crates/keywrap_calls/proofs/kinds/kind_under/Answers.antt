-- The meter's pair is the given one (`same`). A scratch buffer that is not refused has its room (`room`).
use Rattle.std.proofs.Common.{◌≡◌, length, ap, subst, inr, pos}
use Rattle.key_wrap_core.specs.Lengths.{IsPaddedTextLength}
use Rattle.keywrap_calls.specs.KindCalls.{FindsKind, HasScratch}
use Rattle.keywrap_calls.proofs.Finding.{finds_plain, finds_padded, finds_neither}
use Rattle.keywrap_calls.proofs.Lengths.{scratch-not_refused}
use Rattle.keywrap_calls.proofs.kinds.kind_under.Goals as goal

pub returns-in-Ok-Plain-clause-finds : goal.returns-in-Ok-Plain-clause-finds
returns-in-Ok-Plain-clause-finds g c = λ kek legal_kek.
    let same : g.B.BlockPair.encrypted c.new.result.pair ≡ g.B.BlockPair.encrypted c.args.pair.now = ap (λ m. g.B.BlockPair.encrypted m.pair) c.new.ensures in
    let told = rw c.in-Ok-Plain.field-0-is at c.in-Ok-Plain.ensures in
    let room : HasScratch (length c.args.text.now) (length c.args.scratch.now) =
    scratch-not_refused _ _ (λ h. let refused = told.scratch.bad_length.1 h in cc) in
    let kept = λ (other : ¬ IsPaddedTextLength (length c.args.text.now)). told.scratch.kept (inr other) in
    let cleared = told.scratch.cleared in
    subst (λ E. FindsKind E kek c.args.text.now c.args.scratch.now c.kind_into.new.scratch 0 c.in-Ok-Plain.m (pos 0)) same
    (finds_plain _ kek _ _ _ legal_kek room kept cleared _ told.kind.is told.kind.other_form told.kind.plain)

pub returns-in-Ok-Padded-clause-finds : goal.returns-in-Ok-Padded-clause-finds
returns-in-Ok-Padded-clause-finds g c = λ kek legal_kek.
    let same : g.B.BlockPair.encrypted c.new.result.pair ≡ g.B.BlockPair.encrypted c.args.pair.now = ap (λ m. g.B.BlockPair.encrypted m.pair) c.new.ensures in
    let told = rw c.in-Ok-Padded.field-0-is at c.in-Ok-Padded.ensures in
    let room : HasScratch (length c.args.text.now) (length c.args.scratch.now) =
    scratch-not_refused _ _ (λ h. let refused = told.scratch.bad_length.1 h in cc) in
    let kept = λ (other : ¬ IsPaddedTextLength (length c.args.text.now)). told.scratch.kept (inr other) in
    let cleared = told.scratch.cleared in
    subst (λ E. FindsKind E kek c.args.text.now c.args.scratch.now c.kind_into.new.scratch 1 c.in-Ok-Padded.m (pos 0)) same
    (finds_padded _ kek _ _ _ legal_kek room kept cleared _ told.kind.is told.kind.other_form told.kind.plain told.kind.padded)

pub returns-in-Ok-Neither-clause-finds : goal.returns-in-Ok-Neither-clause-finds
returns-in-Ok-Neither-clause-finds g c = λ kek legal_kek.
    let same : g.B.BlockPair.encrypted c.new.result.pair ≡ g.B.BlockPair.encrypted c.args.pair.now = ap (λ m. g.B.BlockPair.encrypted m.pair) c.new.ensures in
    let told = rw c.in-Ok-Neither.field-0-is at c.in-Ok-Neither.ensures in
    let room : HasScratch (length c.args.text.now) (length c.args.scratch.now) =
    scratch-not_refused _ _ (λ h. let refused = told.scratch.bad_length.1 h in cc) in
    let kept = λ (other : ¬ IsPaddedTextLength (length c.args.text.now)). told.scratch.kept (inr other) in
    let cleared = told.scratch.cleared in
    subst (λ E. FindsKind E kek c.args.text.now c.args.scratch.now c.kind_into.new.scratch 0 0 (pos 5)) same
    (finds_neither _ kek _ _ _ legal_kek room kept cleared told.kind.is)
