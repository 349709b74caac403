-- The length is legal, so nothing is refused.
use Rattle.std.proofs.Common.{◌≡◌, ◌-◌, ℕ, List, length, take, drop, arith, length-drop}
use Rattle.std.proofs.lemmas.List.{take_all}
use Rattle.key_wrap_lanes.proofs.Results.{not_bad}
use Rattle.key_wrap_lanes.proofs.wrap_many.begin_lane.Goals as goal

pub returns : goal.returns
returns c =
    let text : List ℕ = c.args.text.now in
    let w = c.begin_wrap.ensures in
    let legal = c.requires in
    let rest : take (length text - 8) (drop 8 text) ≡ drop 8 text = take_all (length text - 8) (drop 8 text) (omega (arith, length-drop 8 text)) in
    let size : length (drop 8 text) ≡ length text - 8 = length-drop 8 text in
    let good = λ (e : c.begin_wrap.result ≡ _). w.refused.bad_length.0 e (rw (rest, size) (omega arith, omega arith, omega arith)) in
    rw rest at (not_bad c.begin_wrap.result w.refused.only_fault good w.begins).begins
