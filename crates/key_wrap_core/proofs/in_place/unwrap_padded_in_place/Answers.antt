-- The machine was given the text, and leaves the padded key after eight zeros, or only zeros.
use Rattle.std.proofs.Common.{rules, ◌≡◌, ℕ, List, take, replicate, All, arith, sym, ap, subst, ◌∙◌}
use Rattle.std.proofs.lemmas.List.Elements.{All-append, All-replicate}
use Rattle.block_pair.specs.Metered.{counted}
use Rattle.key_wrap_core.specs.BlockCalls.{block_calls}
use Rattle.key_wrap_core.specs.Lengths.{IsPaddedTextLength}
use Rattle.key_wrap_core.specs.InPlace.{key_in}
use Rattle.key_wrap_core.proofs.Refusals.{true_or_false}
use Rattle.key_wrap_core.proofs.FormLengths.{padded_text_legal}
use Rattle.key_wrap_core.proofs.InPlaceForm.{first_cleared}
use Rattle.key_wrap_core.proofs.Unwrappings.{renamed, ok_legal, behind_zeros}
use Rattle.key_wrap_core.proofs.in_place.unwrap_padded_in_place.Goals as goal

pub returns-then-not-padded_text_length_ok-clause-accepts : goal.returns-then-not-padded_text_length_ok-clause-accepts
returns-then-not-padded_text_length_ok-clause-accepts g c = λ key h.
    let inv = g.met.B.BlockPair.lawful c.args.meter.now.pair in
    true_or_false c.if-not-padded_text_length_ok.true (c.padded_text_length_ok.ensures.1 (padded_text_legal inv h))

pub returns : goal.returns
returns g c =
    let text : List ℕ = c.args.buf.now in
    let legal = c.padded_text_length_ok.ensures.0 c.if-not-padded_text_length_ok.false in
    let registers : List ℕ = c.unwrap_padded_registers.new.registers in
    let w = c.unwrap_padded_registers.ensures in
    let states = first_cleared c.take_first-c0.result text c.take_first-c0.new.buf registers (omega arith) c.take_first-c0.ensures.first c.take_first-c0.ensures.cleared in
    let u = renamed IsPaddedTextLength {key = λ (m : ℕ). take m registers} states.given
    (ap (λ (bs : List ℕ). λ (m : ℕ). key_in m bs) (sym states.left)) w.answer in
    record {
      unwraps = u;
      accepts = λ other k. ok_legal c.unwrap_padded_registers.result legal u.bad_length (u.accepts other k);
      key = rw states.left (behind_zeros c.unwrap_padded_registers.result (λ m. m) registers w.key);
      refused = record {
        kept = λ e. absurd (u.bad_length.0 e legal);
        cleared = λ e. subst (λ (bs : List ℕ). All (λ byte. byte ≡ 0) bs) (sym states.left)
            (All-append (λ (byte : ℕ). byte ≡ 0) (replicate 8 0) registers (All-replicate (λ (byte : ℕ). byte ≡ 0) 8 0 (search rules)) (w.cleared e));
      };
      calls = record {
        kept = λ e. absurd (u.bad_length.0 e legal);
        counts = λ _. w.calls ∙ ap (λ (len : ℕ). counted (block_calls len) c.args.meter.now) states.long;
      };
    }
