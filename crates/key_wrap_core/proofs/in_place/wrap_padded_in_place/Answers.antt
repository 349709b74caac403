-- The machine runs from the initial value and the padded key after the first word.
use Rattle.std.proofs.Common.{rules, ◌≡◌, ℕ, List, length, drop, ◌+◌, ◌++◌, ◌-◌, arith, sym, ap, ◌∙◌, length-drop, length-take, refl}
use borrow.Rule.Slice.PartMut.{put_mid}
use Rattle.block_pair.specs.Metered.{counted}
use Rattle.key_wrap_core.specs.declared.forms.Form.TheVariants as forms
use Rattle.key_wrap_core.specs.BlockCalls.{block_calls}
use Rattle.key_wrap_core.specs.Words.{word_bytes}
use Rattle.key_wrap_core.specs.Lengths.{IsPaddedKeyLength}
use Rattle.key_wrap_core.specs.Plain.{default_iv}
use Rattle.key_wrap_core.specs.Padded.{aiv, padded}
use Rattle.key_wrap_core.specs.PaddedRegisters.{IsAivAndKey}
use Rattle.key_wrap_core.specs.InPlace.{IsPaddedRoom, key_in}
use Rattle.key_wrap_core.proofs.Refusals.{ok_or_err}
use Rattle.key_wrap_core.proofs.PlainForm.{default_free}
use Rattle.key_wrap_core.proofs.InPlaceForm.{padded_room}
use Rattle.key_wrap_core.proofs.EitherForms.{wraps_found}
use Rattle.key_wrap_core.proofs.in_place.wrap_padded_in_place.Goals as goal

pub returns : goal.returns
returns g c =
    let old : List ℕ = c.args.buf.now in
    let m : ℕ = c.args.m in
    let legal = c.padded_length_ok.ensures.0 c.if-not-padded_length_ok.false in
    let room : IsPaddedRoom m (length old) = (legal, omega (arith, (c.text_len.ensures legal).1)) in
    let key : List ℕ = key_in m old in
    let count : length key ≡ m = omega (arith, length-take m (drop 8 old), length-drop 8 old, room.1) in
    let filled : List ℕ = put_mid (8 + m) (length old - (8 + m)) old c.fill.new.self in
    let after_first : drop 8 filled ≡ padded key = padded_room m old c.fill.new.self room (c.fill.ensures.after (λ y e. e)) in
    let long : length filled ≡ length old = search rules in
    let first : c.padded_iv.result ≡ aiv (length key) = c.padded_iv.ensures ∙ ap aiv (sym count) in
    let before : List ℕ = word_bytes c.padded_iv.result ++ drop 8 filled in
    let holds : IsAivAndKey before key = rw (first, after_first) refl in
    let fits : IsPaddedKeyLength (length key) = rw count legal in
    record {
      wraps = wraps_found default_iv forms.Padded key before old c.wrap_buffer.new.buf (g.met.B.BlockPair.lawful c.args.meter.now.pair) default_free room
          (fits, holds) c.wrap_buffer.ensures.wrapped;
      calls = record {
        kept = λ e. ok_or_err e;
        counts = λ _. c.wrap_buffer.ensures.calls ∙ ap (λ (len : ℕ). counted (block_calls len) c.args.meter.now) long;
      };
    }
