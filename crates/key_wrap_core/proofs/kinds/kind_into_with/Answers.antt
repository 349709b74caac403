-- The key in either form gives the kind, and is cleared.
use Rattle.std.proofs.Common.{length, Err, refl, ap, ◌∙◌}
use Rattle.key_wrap_core.specs.Lengths.{IsPaddedTextLength}
use Rattle.key_wrap_core.proofs.Refusals.{true_or_false}
use Rattle.key_wrap_core.proofs.KindForms.{kind_found, kind_none, kind_illegal}
use Rattle.key_wrap_core.proofs.kinds.kind_into_with.Goals as goal

pub returns-then-not-padded_text_length_ok : goal.returns-then-not-padded_text_length_ok
returns-then-not-padded_text_length_ok g c =
    let illegal : ¬ IsPaddedTextLength (length c.args.text.now) = λ h.
    true_or_false c.if-not-padded_text_length_ok.true (c.padded_text_length_ok.ensures.1 h) in
    let k = kind_illegal c.args.iv.now c.args.text.now (g.met.B.BlockPair.lawful c.args.meter.now.pair) illegal in
    record {
      kind = k;
      scratch = record {
        bad_length = (λ e. true_or_false refl e, λ bad. absurd (illegal bad.0));
        only_fault = tt;
        kept = λ h. refl;
        meter_kept = λ h. refl;
        cleared = λ legal. absurd (illegal legal);
        calls = λ legal. absurd (illegal legal);
      };
    }

pub returns-in-Ok-clause-kind : goal.returns-in-Ok-clause-kind
returns-in-Ok-clause-kind g c =
    let w = c.in-Ok.ensures in
    rw c.kind_of.ensures
    (kind_found c.args.iv.now c.in-Ok.found.form c.in-Ok.found.len _ c.args.text.now w.unwraps.answer w.key.size w.unwraps.other_form)

pub returns-in-Err-Integrity-clause-kind : goal.returns-in-Err-Integrity-clause-kind
returns-in-Err-Integrity-clause-kind g c =
    let none = c.unwrap_any_into.ensures.unwraps.integrity.0 (c.in-Err-Integrity.is ∙ ap Err c.in-Err-Integrity.field-0-is) in
    kind_none c.args.iv.now c.args.text.now none.1
