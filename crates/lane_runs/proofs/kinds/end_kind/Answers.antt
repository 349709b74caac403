-- The length is legal and no step is left, so the call decides.
use Rattle.std.proofs.Common.{◌≡◌, ◌-◌, ℕ, List, length, drop, Err, refl, arith, ap, ◌∙◌, length-drop}
use Rattle.key_wrap_core.specs.declared.faults.InPlaceFault.TheVariants.{BadLength}
use Rattle.key_wrap_core.specs.Kind.{kind_as}
use Rattle.key_wrap_core.specs.declared.forms.Kind.TheVariants.{Neither}
use Rattle.key_wrap_core.specs.Plain.{default_iv}
use Rattle.key_wrap_core.proofs.FoundForms.{behind_first}
use Rattle.key_wrap_core.proofs.KindForms.{kind_found, kind_none}
use Rattle.key_wrap_core.specs.declared.faults.InPlaceFault.{InPlaceFault}
use Rattle.lane_runs.proofs.KindEnds.{no_key}
use Rattle.lane_runs.proofs.kinds.end_kind.Goals as goal

pub returns-in-Ok : goal.returns-in-Ok
returns-in-Ok c = λ E D text inverse size state.
    let old : List ℕ = c.args.text.now in
    let w = c.end_unwrap_any.ensures in
    let legal = c.requires.legal in
    let behind : length (drop 8 old) ≡ length old - 8 = length-drop 8 old in
    let good = λ (e : c.end_unwrap_any.result ≡ Err BadLength). w.bad_length.0 e ((rw (behind_first old, behind) (omega arith, omega arith, omega arith)), refl) in
    let block = rw c.copy_from_slice.ensures.after at w.answer in
    let told = rw (c.default.ensures, c.in-Ok.is) at (block good E D text inverse (rw (behind_first old) state)) in
    let held = rw c.in-Ok.is at w.key in
    record {
      kind = kind_as c.in-Ok.found.form c.in-Ok.found.len;
      is = kind_found default_iv c.in-Ok.found.form c.in-Ok.found.len _ text told.answer held.size told.other_form;
      numbers = c.numbers_of.ensures;
    }

pub returns-in-Err : goal.returns-in-Err
returns-in-Err c = λ E D text inverse size state.
    let old : List ℕ = c.args.text.now in
    let w = c.end_unwrap_any.ensures in
    let legal = c.requires.legal in
    let behind : length (drop 8 old) ≡ length old - 8 = length-drop 8 old in
    let good = λ (e : c.end_unwrap_any.result ≡ Err BadLength). w.bad_length.0 e ((rw (behind_first old, behind) (omega arith, omega arith, omega arith)), refl) in
    let block = rw c.copy_from_slice.ensures.after at w.answer in
    let told = rw (c.default.ensures, c.in-Err.is) at (block good E D text inverse (rw (behind_first old) state)) in
    let none = no_key c.in-Err.field-0 told (λ e. good (c.in-Err.is ∙ ap (λ (fault : InPlaceFault). Err fault) e)) in
    record { kind = Neither; is = kind_none default_iv text none; numbers = (refl, refl, refl) }
