-- The length is legal, so nothing is refused.
use Rattle.std.proofs.Common.{◌≡◌, ◌+◌, ◌-◌, ℕ, List, ◌++◌, length, take, drop, arith, length-drop}
use Rattle.std.proofs.lemmas.List.{take_all, take-append-drop}
use Rattle.key_wrap_lanes.proofs.Results.{not_bad}
use Rattle.key_wrap_lanes.proofs.unwrap_many.begin_lane.Goals as goal

pub returns : goal.returns
returns c =
    let text : List ℕ = c.args.text.now in
    let w = c.begin_unwrap.ensures in
    let legal = c.requires in
    let rest : take (length text - 8) (drop 8 text) ≡ drop 8 text = take_all (length text - 8) (drop 8 text) (omega (arith, length-drop 8 text)) in
    let whole : 8 + length (drop 8 text) ≡ length text = omega (arith, length-drop 8 text) in
    let good = λ (e : c.begin_unwrap.result ≡ _). w.refused.bad_length.0 e (rw (rest, whole) legal) in
    let begun = not_bad c.begin_unwrap.result w.refused.only_fault good w.begins in
    let left = rw (rest, whole) at begun.all_left in
    let text_again : c.copy_from_slice.new.self ++ drop 8 text ≡ text = rw c.copy_from_slice.ensures.after (take-append-drop 8 text) in
    rw (left, rest, text_again) at begun.begins
