-- The length is legal and no step is left, so the call decides.
use Rattle.std.proofs.Common.{◌≡◌, ◌-◌, ℕ, List, length, drop, replicate, Err, refl, arith, length-append, length-drop, ap, ◌∙◌}
use Rattle.key_wrap_core.specs.declared.faults.InPlaceFault.{InPlaceFault}
use Rattle.key_wrap_core.specs.declared.faults.InPlaceFault.TheVariants.{BadLength}
use Rattle.lane_runs.proofs.Finished.{lent, finished, plain_finished, plain_refused}
use Rattle.lane_runs.proofs.ends.end_plain.Goals as goal

pub returns-in-Ok : goal.returns-in-Ok
returns-in-Ok c = λ E D text inverse size state.
    let old : List ℕ = c.args.text.now in
    let cleared : List ℕ = c.clear_first.new.text in
    let registers : List ℕ = c.end_unwrap.new.registers in
    let w = c.end_unwrap.ensures in
    let legal = c.requires in
    let given = lent old cleared (omega arith) c.clear_first.ensures in
    let behind : length (drop 8 old) ≡ length old - 8 = length-drop 8 old in
    let kept : length registers ≡ length old - 8 = c.end_unwrap.auto.registers ∙ ap length given ∙ behind in
    let buffer = finished old cleared registers (omega arith) c.clear_first.ensures kept in
    let good = λ (e : c.end_unwrap.result ≡ Err BadLength). w.bad_length.0 e ((rw (given, behind) (omega arith, omega arith, omega arith)), refl) in
    let found = rw (c.default.ensures, c.in-Ok.is) at (w.answer good E D text inverse (rw given state)) in
    plain_finished _ buffer (omega (arith, ap length buffer, length-append (replicate 8 0) registers)) (omega (arith, ap length buffer, length-append (replicate 8 0) registers, kept)) found

pub returns-in-Err : goal.returns-in-Err
returns-in-Err c = λ E D text inverse size state.
    let old : List ℕ = c.args.text.now in
    let cleared : List ℕ = c.clear_first.new.text in
    let registers : List ℕ = c.end_unwrap.new.registers in
    let w = c.end_unwrap.ensures in
    let legal = c.requires in
    let given = lent old cleared (omega arith) c.clear_first.ensures in
    let behind : length (drop 8 old) ≡ length old - 8 = length-drop 8 old in
    let kept : length registers ≡ length old - 8 = c.end_unwrap.auto.registers ∙ ap length given ∙ behind in
    let buffer = finished old cleared registers (omega arith) c.clear_first.ensures kept in
    let good = λ (e : c.end_unwrap.result ≡ Err BadLength). w.bad_length.0 e ((rw (given, behind) (omega arith, omega arith, omega arith)), refl) in
    let none = rw (c.default.ensures, c.in-Err.is) at (w.answer good E D text inverse (rw given state)) in
    plain_refused c.in-Err.fault buffer (λ e. good (c.in-Err.is ∙ ap (λ (fault : InPlaceFault). Err fault) e)) none
    (λ e. w.refused.cleared (c.in-Err.is ∙ ap (λ (fault : InPlaceFault). Err fault) e))
