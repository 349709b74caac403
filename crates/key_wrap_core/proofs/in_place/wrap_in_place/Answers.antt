-- The machine runs from the initial value and the key after the first word.
use Rattle.std.proofs.Common.{ℕ, List, drop, ◌++◌, arith, refl, length-drop}
use Rattle.key_wrap_core.specs.declared.forms.Form.TheVariants as forms
use Rattle.key_wrap_core.specs.Words.{word_bytes}
use Rattle.key_wrap_core.specs.Plain.{default_iv}
use Rattle.key_wrap_core.proofs.Refusals.{ok_or_err}
use Rattle.key_wrap_core.proofs.PlainForm.{default_free}
use Rattle.key_wrap_core.proofs.EitherForms.{wraps_found}
use Rattle.key_wrap_core.proofs.in_place.wrap_in_place.Goals as goal

pub returns : goal.returns
returns g c =
    let old : List ℕ = c.args.buf.now in
    let legal = c.text_length_ok.ensures.0 c.if-not-text_length_ok.false in
    let size = length-drop 8 old in
    record {
      wraps = wraps_found default_iv forms.Plain (drop 8 old) (word_bytes default_iv ++ drop 8 old) old c.wrap_buffer.new.buf
          (g.met.B.BlockPair.lawful c.args.meter.now.pair) default_free legal ((omega arith, omega arith, omega arith), refl, omega arith) c.wrap_buffer.ensures.wrapped;
      calls = record { kept = λ e. ok_or_err e; counts = λ _. c.wrap_buffer.ensures.calls };
    }
