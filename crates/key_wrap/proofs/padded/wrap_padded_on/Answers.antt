-- The buffer has the length of the wrapped key, so it is returned as it was written.
use Rattle.std.proofs.Common.{arith}
use Rattle.key_wrap_core.proofs.Refusals.{ok_or_err}
use Rattle.key_wrap.proofs.Promises.{written_back}
use Rattle.key_wrap.proofs.padded.wrap_padded_on.Goals as goal

pub returns : goal.returns
returns g c =
    let legal = c.padded_length_ok.ensures.0 c.if-not-padded_length_ok.false in
    let back = written_back c.in_ok-text.text.len c.wrap_padded_into.new.text c.in_ok-text.text.items (omega arith) in
    let w = rw c.unwrap.ensures at c.wrap_padded_into.ensures.wraps in
    record {
      bad_length = (λ e. ok_or_err e, λ bad. absurd (bad legal));
      memory = λ e. legal;
      answer = rw back w.answer;
      only_text = rw back w.only_text;
      other_form = rw back w.other_form;
    }
