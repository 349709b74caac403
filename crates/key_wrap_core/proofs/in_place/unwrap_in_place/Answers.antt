-- The machine was given the text, and leaves the key after eight zeros, or only zeros.
use Rattle.std.proofs.Common.{rules, ◌≡◌, ℕ, List, drop, replicate, All, arith, sym, ap, subst, ◌∙◌}
use Rattle.std.proofs.lemmas.List.Elements.{All-append, All-replicate}
use Rattle.block_pair.specs.Metered.{counted}
use Rattle.key_wrap_core.specs.BlockCalls.{block_calls}
use Rattle.key_wrap_core.specs.Lengths.{IsPlainTextLength}
use Rattle.key_wrap_core.proofs.Refusals.{true_or_false}
use Rattle.key_wrap_core.proofs.FormLengths.{plain_text_legal}
use Rattle.key_wrap_core.proofs.InPlaceForm.{first_cleared}
use Rattle.key_wrap_core.proofs.Unwrappings.{renamed, ok_legal}
use Rattle.key_wrap_core.proofs.in_place.unwrap_in_place.Goals as goal

pub returns-then-not-text_length_ok-clause-accepts : goal.returns-then-not-text_length_ok-clause-accepts
returns-then-not-text_length_ok-clause-accepts g c = λ key h. true_or_false c.if-not-text_length_ok.true (c.text_length_ok.ensures.1 (plain_text_legal h))

pub returns : goal.returns
returns g c =
    let text : List ℕ = c.args.buf.now in
    let legal = c.text_length_ok.ensures.0 c.if-not-text_length_ok.false in
    let key : List ℕ = c.unwrap_registers.new.registers in
    let states = first_cleared c.take_first-c0.result text c.take_first-c0.new.buf key (omega arith) c.take_first-c0.ensures.first c.take_first-c0.ensures.cleared in
    let u = renamed IsPlainTextLength {key = λ (_ : Unit {0}). key} states.given (ap (λ (bs : List ℕ). λ (_ : Unit {0}). drop 8 bs) (sym states.left))
    c.unwrap_registers.ensures.answer in
    record {
      unwraps = u;
      accepts = λ other k. ok_legal c.unwrap_registers.result legal u.bad_length (u.accepts other k);
      first_word = search rules;
      refused = record {
        kept = λ e. absurd (u.bad_length.0 e legal);
        cleared = λ e. subst (λ (bs : List ℕ). All (λ byte. byte ≡ 0) bs) (sym states.left)
            (All-append (λ (byte : ℕ). byte ≡ 0) (replicate 8 0) key (All-replicate (λ (byte : ℕ). byte ≡ 0) 8 0 (search rules))
            (c.unwrap_registers.ensures.cleared e));
      };
      calls = record {
        kept = λ e. absurd (u.bad_length.0 e legal);
        counts = λ _. c.unwrap_registers.ensures.calls ∙ ap (λ (len : ℕ). counted (block_calls len) c.args.meter.now) states.long;
      };
    }
