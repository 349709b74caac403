use Rattle.keywrap_cli.proofs.Common.{◌≡◌, ◌∙◌, ℕ, List, length, take, drop, OnOk, arith, ap, take_at, on_ok_weaker, IsTextLengthAs, ArePaddedLengths, ArePlainLengths, Plain}
use Rattle.key_wrap_core.specs.declared.agreed_form.AgreedForm.TheVariants as forms
use Rattle.key_wrap_core.proofs.FormLengths.{plain_text_legal}
use Rattle.keywrap_cli.proofs.Conversions.{is_found, none_found, unwrapped, wrapped}
use Rattle.keywrap_cli.proofs.convert.convert_in_room.Goals as goal

pub returns-in-Plain : goal.returns-in-Plain
returns-in-Plain g c =
    let w = c.wrap_into_with.ensures.wraps in
    let iv = c.in-Plain.iv in
    let new : List ℕ = c.wrap_into_with.new.text in
    let back = take_at new (drop (length new) c.args.output.now.items) c.args.output.now.len (omega arith) in
    let asked = rw (c.in-Wrap.is, c.in-Plain.is) at c.requires in
    let room : ArePlainLengths (length c.args.input.now) (length c.deref_mut.result.now) = rw c.deref_mut.ensures.value asked in
    let legal : OnOk c.wrap_into_with.result (IsTextLengthAs (forms.Plain iv) (length new)) =
    on_ok_weaker c.wrap_into_with.result plain_text_legal w.answer in
    rw (c.in-Wrap.is, c.in-Plain.is, back) (wrapped (forms.Plain iv) (g.B.BlockPair.encrypted c.args.meter.now.pair)
    c.args.input.now new c.wrap_into_with.result room w.bad_length w.only_fault legal w.answer w.only_text)

pub returns-in-Plain-form : goal.returns-in-Plain-form
returns-in-Plain-form g c =
    let w = c.unwrap_into_with.ensures.unwraps in
    let iv = c.in-Plain-form.iv in
    let new : List ℕ = c.unwrap_into_with.new.key in
    let given : List ℕ = c.deref_mut-in-Plain-form.result.now in
    let back = take_at new (drop (length new) c.args.output.now.items) c.args.output.now.len (omega arith) in
    let asked = rw (c.in-Unwrap.is, c.in-Plain-form.is) at c.requires in
    let legal : ArePlainLengths (length given) (length c.args.input.now) = rw c.deref_mut-in-Plain-form.ensures.value asked in
    rw (c.in-Unwrap.is, c.in-Plain-form.is, back) (unwrapped (forms.Plain iv)
    (Plain (g.B.BlockPair.encrypted c.args.meter.now.pair) iv) (g.B.BlockPair.encrypted c.args.meter.now.pair) c.args.input.now new
    (ArePlainLengths (length given) (length c.args.input.now)) c.unwrap_into_with.result legal
    (omega (arith, legal), omega (arith, legal), omega (arith, legal)) (λ k h. h) (λ k h. h) w.answer w.only_key w.restores w.other_form)

pub returns-in-Ok : goal.returns-in-Ok
returns-in-Ok g c =
    let new : List ℕ = c.unwrap_padded_into.new.key in
    let back = take_at new (drop (length new) c.args.output.now.items) c.args.output.now.len (omega arith) in
    let key : c.truncate.new.self.items ≡ take c.in-Ok.len new = c.truncate.ensures.items ∙ ap (take c.in-Ok.len) back in
    let w = c.in-Ok.ensures.unwraps in
    rw (c.in-Unwrap.is, c.in-Padded-form.is, key)
    (record { wrapping = w.answer.1; alone = w.only_key; restores = w.restores; one_form = w.other_form })

pub returns-in-Ok-unwrap_any_into : goal.returns-in-Ok-unwrap_any_into
returns-in-Ok-unwrap_any_into g c =
    let made : List ℕ = c.unwrap_any_into.new.key in
    let back = take_at made (drop (length made) c.args.output.now.items) c.args.output.now.len (omega arith) in
    let key : c.truncate-in-Ok-unwrap_any_into.new.self.items ≡ take c.in-Ok-unwrap_any_into.found.len made =
    c.truncate-in-Ok-unwrap_any_into.ensures.items ∙ ap (take c.in-Ok-unwrap_any_into.found.len) back in
    let w = c.in-Ok-unwrap_any_into.ensures.unwraps in
    rw (c.in-UnwrapAny.is, key) (c.in-Ok-unwrap_any_into.found.form, is_found _ _ _ _ _ w.answer w.other_form)

pub returns-in-Err-unwrap_any_into : goal.returns-in-Err-unwrap_any_into
returns-in-Err-unwrap_any_into g c =
    let w = c.in-Err-unwrap_any_into.ensures.unwraps in
    let asked = rw c.in-UnwrapAny.is at c.requires in
    let legal : ArePaddedLengths (length c.deref_mut-in-UnwrapAny.result.now) (length c.args.input.now) = rw c.deref_mut-in-UnwrapAny.ensures.value asked in
    rw c.in-UnwrapAny.is (none_found _ _ _ _ _ legal w.bad_length w.integrity)
