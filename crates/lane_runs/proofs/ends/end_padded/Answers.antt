-- The length is legal and no step is left, so the call decides.
use Rattle.std.proofs.Common.{◌≡◌, ◌-◌, ℕ, List, length, drop, Err, refl, arith, length-drop, ap, ◌∙◌}
use Rattle.key_wrap_core.specs.declared.faults.InPlaceFault.TheVariants.{BadLength}
use Rattle.lane_runs.proofs.Finished.{lent, finished, padded_finished}
use Rattle.lane_runs.proofs.ends.end_padded.Goals as goal

pub returns : goal.returns
returns c = λ E D text inverse size state.
    let old : List ℕ = c.args.text.now in
    let cleared : List ℕ = c.clear_first.new.text in
    let registers : List ℕ = c.end_unwrap_padded.new.registers in
    let w = c.end_unwrap_padded.ensures in
    let legal = c.requires in
    let given = lent old cleared (omega arith) c.clear_first.ensures in
    let behind : length (drop 8 old) ≡ length old - 8 = length-drop 8 old in
    let kept : length registers ≡ length old - 8 = c.end_unwrap_padded.auto.registers ∙ ap length given ∙ behind in
    let buffer = finished old cleared registers (omega arith) c.clear_first.ensures kept in
    let good = λ (e : c.end_unwrap_padded.result ≡ Err BadLength). w.bad_length.0 e ((rw (given, behind) (omega arith, omega arith, omega arith)), refl) in
    padded_finished c.end_unwrap_padded.result buffer good (w.answer good E D text inverse (rw given state)) w.key w.refused.cleared
