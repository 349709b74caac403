-- The buffer has the length of the key and its padding, and what is returned is its first bytes.
use Rattle.std.proofs.Common.{◌≡◌, ℕ, ◌-◌, List, length, take, arith, ap, ◌∙◌}
use Rattle.key_wrap_core.specs.InPlace.{ArePaddedLengths}
use Rattle.key_wrap_core.specs.declared.agreed_form.AgreedForm.TheVariants.{Padded as InPadded}
use Rattle.key_wrap_core.specs.Padded.{Padded}
use Rattle.key_wrap_core.proofs.FormLengths.{padded_text_legal}
use Rattle.key_wrap_core.proofs.Refusals.{ok_or_err, true_or_false}
use Rattle.key_wrap.proofs.Promises.{refused, unwrap_refused, unwrap_none, written_back}
use Rattle.key_wrap.proofs.padded.unwrap_padded_on.Goals as goal

pub returns-then-not-padded_text_length_ok : goal.returns-then-not-padded_text_length_ok
returns-then-not-padded_text_length_ok g c =
    let E = g.B.BlockPair.encrypted c.args.meter.now.pair in
    unwrap_refused InPadded E c.args.text.now
    (λ key h. padded_text_legal (g.met.B.BlockPair.lawful c.args.meter.now.pair) h)
    (λ legal. true_or_false c.if-not-padded_text_length_ok.true (c.padded_text_length_ok.ensures.1 legal))

pub returns-in_err-len : goal.returns-in_err-len
returns-in_err-len g c =
    let E = g.B.BlockPair.encrypted c.args.meter.now.pair in
    let text : List ℕ = c.args.text.now in
    let legal = c.padded_text_length_ok.ensures.0 c.if-not-padded_text_length_ok.false in
    let room : List ℕ = c.deref_mut.result.now in
    let size : length room ≡ length text - 8 = c.deref_mut.ensures.len ∙ c.in_ok-key.ensures.len in
    let lengths : ArePaddedLengths (length room) (length text) = (legal, omega arith) in
    let w = refused (Padded (g.B.BlockPair.encrypted c.args.meter.now.pair)) (ArePaddedLengths (length room) (length text)) (λ (m : ℕ). take m c.unwrap_padded_into.new.key) text
    c.in_err-len.field-0.0 c.from_residual-in_err-len.result lengths c.in_err-len.ensures.unwraps.answer c.from_residual-in_err-len.ensures in
    unwrap_none InPadded E text c.from_residual-in_err-len.result legal w.0 w.1

pub returns : goal.returns
returns g c =
    let legal = c.padded_text_length_ok.ensures.0 c.if-not-padded_text_length_ok.false in
    let new : List ℕ = c.unwrap_padded_into.new.key in
    let back = written_back c.in_ok-key.key.len new c.in_ok-key.key.items (omega arith) in
    let key : c.truncate.new.self.items ≡ take c.in_ok-len.len new = c.truncate.ensures.items ∙ ap (take c.in_ok-len.len) back in
    let w = c.in_ok-len.ensures.unwraps in
    record {
      bad_length = (λ e. ok_or_err e, λ bad. absurd (bad legal));
      answer = (legal, rw key w.answer.1);
      accepts = λ key h. tt;
      only_key = rw key w.only_key;
      restores = rw key w.restores;
      other_form = w.other_form;
    }
