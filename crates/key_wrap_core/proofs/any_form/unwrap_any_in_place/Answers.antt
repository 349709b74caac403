-- The machine was given the text, and leaves the key after eight zeros, or only zeros.
use Rattle.std.proofs.Common.{rules, ◌≡◌, ℕ, List, replicate, arith, ap, ◌∙◌}
use Rattle.std.proofs.lemmas.List.Elements.{All-append, All-replicate}
use Rattle.block_pair.specs.Metered.{counted}
use Rattle.key_wrap_core.specs.BlockCalls.{block_calls}
use Rattle.key_wrap_core.proofs.Refusals.{true_or_false}
use Rattle.key_wrap_core.proofs.InPlaceForm.{first_cleared}
use Rattle.key_wrap_core.proofs.Unwrappings.{ok_legal, behind_zeros}
use Rattle.key_wrap_core.proofs.EitherForms.{either_legal}
use Rattle.key_wrap_core.proofs.any_form.unwrap_any_in_place.Goals as goal

pub returns-then-not-padded_text_length_ok-clause-accepts : goal.returns-then-not-padded_text_length_ok-clause-accepts
returns-then-not-padded_text_length_ok-clause-accepts g c = λ form key h.
    let inv = g.met.B.BlockPair.lawful c.args.meter.now.pair in
    true_or_false c.if-not-padded_text_length_ok.true (c.padded_text_length_ok.ensures.1 (either_legal c.args.iv.now form key c.args.buf.now inv h))

pub returns : goal.returns
returns g c =
    let text : List ℕ = c.args.buf.now in
    let c0 : ℕ = c.take_first-c0.result in
    let legal = c.padded_text_length_ok.ensures.0 c.if-not-padded_text_length_ok.false in
    let registers : List ℕ = c.unwrap_any_registers.new.registers in
    let states = first_cleared c0 text c.take_first-c0.new.buf registers (omega arith) c.take_first-c0.ensures.first c.take_first-c0.ensures.cleared in
    let r = c.unwrap_any_registers.result in
    let w = rw (states.given, c.word.ensures.value) at c.unwrap_any_registers.ensures in
    let u = w.unwraps in
    record {
      unwraps = rw states.left u;
      accepts = λ form other h. ok_legal r legal u.bad_length (u.accepts form other h);
      key = rw states.left (behind_zeros r (λ found. found.len) registers w.key);
      refused = record {
        kept = λ e. absurd (u.bad_length.0 e legal);
        cleared = λ e. rw states.left
            (All-append (λ (byte : ℕ). byte ≡ 0) (replicate 8 0) registers (All-replicate (λ (byte : ℕ). byte ≡ 0) 8 0 (search rules)) (w.cleared e));
      };
      calls = record {
        kept = λ e. absurd (u.bad_length.0 e legal);
        counts = λ _. w.calls ∙ ap (λ (len : ℕ). counted (block_calls len) c.args.meter.now) states.long;
      };
    }
