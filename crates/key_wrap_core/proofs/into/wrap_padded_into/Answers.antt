-- The key follows the first word of the text's buffer, and the lengths are legal.
use Rattle.std.proofs.Common.{rules, ◌≡◌, ℕ, List, length, ◌+◌, ◌-◌, arith, ap, ◌∙◌}
use borrow.Rule.Slice.PartMut.{put_mid}
use Rattle.key_wrap_core.specs.InPlace.{IsPaddedRoom, key_in}
use Rattle.key_wrap_core.proofs.InPlaceForm.{copied_key}
use Rattle.key_wrap_core.proofs.into.wrap_padded_into.Goals as goal

pub returns : goal.returns
returns g c =
    let text : List ℕ = c.args.text.now in
    let key : List ℕ = c.args.key.now in
    let m : ℕ = length key in
    let legal = c.padded_length_ok.ensures.0 c.if-not-padded_length_ok.false in
    let room : IsPaddedRoom m (length text) = (legal, omega (arith, (c.text_len.ensures legal).1)) in
    let given : List ℕ = put_mid 8 (8 + m - 8) text c.copy_from_slice.new.self in
    let long : length given ≡ length text = search rules in
    let held : key_in m given ≡ key =
    ap (λ (bs : List ℕ). key_in m (put_mid 8 (8 + m - 8) text bs)) c.copy_from_slice.ensures.after ∙ copied_key (8 + m - 8) text key (omega arith) in
    let w = c.wrap_padded_in_place.ensures.wraps in
    let fits : IsPaddedRoom m (length given) = rw long room in
    record {
      wraps = record {
        bad_length = (λ e. absurd (w.bad_length.0 e fits), λ bad. absurd (bad room));
        only_fault = w.only_fault;
        kept = λ e. absurd (w.bad_length.0 e fits);
        answer = rw held at w.answer;
        only_text = rw held at w.only_text;
        other_form = w.other_form;
      };
      calls = rw long at c.wrap_padded_in_place.ensures.calls;
    }
