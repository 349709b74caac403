-- The registers are the padded key once the bytes after it are zeros.
use Rattle.std.proofs.Common.{ℕ, ◌+◌, ◌-◌, List, length, arith, refl, subst}
use borrow.Rule.Slice.PartMut.{put_mid}
use Rattle.key_wrap_core.specs.InPlace.{IsPaddedRoom}
use Rattle.key_wrap_core.specs.Padded.{aiv}
use Rattle.key_wrap_core.specs.Steps.{WrapState}
use Rattle.key_wrap_core.proofs.Refusals.{ok_or_err}
use Rattle.key_wrap_core.proofs.InPlaceForm.{padded_after}
use Rattle.key_wrap_steps.proofs.wrap_steps.begin_wrap_padded.Goals as goal

pub returns : goal.returns
returns c =
    let old : List ℕ = c.args.registers.now in
    let legal = c.padded_length_ok.ensures.0 c.if-not-padded_length_ok.false in
    let room : IsPaddedRoom c.args.m (8 + length old) = (legal, omega (arith, (c.text_len.ensures legal).1)) in
    let now : List ℕ = put_mid c.args.m (length old - c.args.m) old c.fill.new.self in
    let pads = padded_after c.args.m old c.fill.new.self room (c.fill.ensures.after (λ y e. e)) in
    record {
      refused = record { bad_length = (λ e. ok_or_err e, λ bad. absurd (bad room)); only_fault = tt; kept = λ e. ok_or_err e };
      pads = pads;
      begins = record {
        none_done = refl;
        begins = λ E. subst (λ (key : List ℕ). WrapState E (aiv c.args.m) key 0 now c.first_block.result) pads
            (rw c.padded_iv.ensures at (c.first_block.ensures E));
      };
    }
