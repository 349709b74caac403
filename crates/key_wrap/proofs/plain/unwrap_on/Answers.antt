-- The buffer has the length of the key, so it is returned as it was written.
use Rattle.std.proofs.Common.{◌≡◌, ℕ, ◌-◌, List, length, arith, ap, ◌∙◌}
use Rattle.key_wrap_core.specs.InPlace.{ArePlainLengths}
use Rattle.key_wrap_core.specs.declared.agreed_form.AgreedForm.TheVariants.{Plain as InPlain}
use Rattle.key_wrap_core.specs.Plain.{Plain}
use Rattle.key_wrap_core.proofs.FormLengths.{plain_text_legal}
use Rattle.key_wrap_core.proofs.Refusals.{ok_or_err, true_or_false}
use Rattle.key_wrap.proofs.Promises.{refused, unwrap_refused, unwrap_none, written_back}
use Rattle.key_wrap.proofs.plain.unwrap_on.Goals as goal

pub returns-then-not-text_length_ok : goal.returns-then-not-text_length_ok
returns-then-not-text_length_ok g c =
    let E = g.B.BlockPair.encrypted c.args.meter.now.pair in
    unwrap_refused (InPlain c.args.iv.now) E c.args.text.now (λ key h. plain_text_legal h)
    (λ legal. true_or_false c.if-not-text_length_ok.true (c.text_length_ok.ensures.1 legal))

pub returns-in_err-unwrap_into_with : goal.returns-in_err-unwrap_into_with
returns-in_err-unwrap_into_with g c =
    let E = g.B.BlockPair.encrypted c.args.meter.now.pair in
    let text : List ℕ = c.args.text.now in
    let legal = c.text_length_ok.ensures.0 c.if-not-text_length_ok.false in
    let room : List ℕ = c.deref_mut.result.now in
    let size : length room ≡ length text - 8 = c.deref_mut.ensures.len ∙ c.in_ok-key.ensures.len in
    let lengths : ArePlainLengths (length room) (length text) = ((omega arith, omega arith, omega arith), omega arith) in
    let w = refused (Plain (g.B.BlockPair.encrypted c.args.meter.now.pair) c.args.iv.now) (ArePlainLengths (length room) (length text)) (λ (_ : Unit {0}). c.unwrap_into_with.new.key) text
    c.in_err-unwrap_into_with.field-0.0 c.from_residual-in_err-unwrap_into_with.result lengths c.in_err-unwrap_into_with.ensures.unwraps.answer
    c.from_residual-in_err-unwrap_into_with.ensures in
    unwrap_none (InPlain c.args.iv.now) E text c.from_residual-in_err-unwrap_into_with.result legal w.0 w.1

pub returns : goal.returns
returns g c =
    let legal = c.text_length_ok.ensures.0 c.if-not-text_length_ok.false in
    let back = written_back c.in_ok-key.key.len c.unwrap_into_with.new.key c.in_ok-key.key.items (omega arith) in
    let w = c.in_ok-unwrap_into_with.ensures.unwraps in
    record {
      bad_length = (λ e. ok_or_err e, λ bad. absurd (bad legal));
      answer = (legal, rw back w.answer.1);
      accepts = λ key h. tt;
      only_key = rw back w.only_key;
      restores = rw back w.restores;
      other_form = w.other_form;
    }
