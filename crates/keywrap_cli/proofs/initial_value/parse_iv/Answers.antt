-- The decoding says whether the text is 16 digits, and the value's making whether it is reserved.
use Rattle.std.proofs.Common.{refl, sym}
use Rattle.keywrap_cli.proofs.InitialValues.{free_value, no_digits, of_decoded, of_refused, reserved_value}
use Rattle.keywrap_cli.proofs.initial_value.parse_iv.Goals as goal

pub returns-then-is_err : goal.returns-then-is_err
returns-then-is_err c =
    let none = of_refused c.args.text.now _ c.decode_to_slice.result c.decode_to_slice.ensures.value (sym c.if-is_err.ensures.value) in
    let answered = no_digits c.args.text.now none in
    record { value = answered.value; not_digits = answered.not_digits; reserved = answered.reserved }

pub returns-in-Ok : goal.returns-in-Ok
returns-in-Ok c =
    let denotes = of_decoded c.args.text.now _ c.decode_to_slice.result c.decode_to_slice.ensures.value (sym c.if-is_err.ensures.value) in
    let made = c.in-Ok.ensures in
    let answered = free_value c.args.text.now c.in-Ok.iv (rw made.value denotes) (λ is. let e = made.reserved.1 (rw made.value at is) in cc e) in
    record { value = answered.value; not_digits = answered.not_digits; reserved = answered.reserved }

pub returns-in-Err : goal.returns-in-Err
returns-in-Err c =
    let denotes = of_decoded c.args.text.now _ c.decode_to_slice.result c.decode_to_slice.ensures.value (sym c.if-is_err.ensures.value) in
    let answered = reserved_value c.args.text.now _ denotes (c.in-Err.ensures.reserved.0 refl) in
    record { value = answered.value; not_digits = answered.not_digits; reserved = answered.reserved }
