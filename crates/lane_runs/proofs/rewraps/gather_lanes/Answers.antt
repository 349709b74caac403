-- One text after the other.
use Rattle.std.proofs.Common.{rules, ◌≡◌, ◌≢◌, ◌+◌, ◌*◌, ◌-◌, ◌≤◌, ◌<◌, ℕ, List, length, take, drop, get_or, slice_set, arith, refl, ap, sym, ◌∙◌, get_or-set_other, get_or-set_same}
use Rattle.std.proofs.lemmas.Bool.{false≢true}
use Rattle.key_wrap_core.proofs.Parts.{part_written, part_kept}
use Rattle.key_wrap_lanes.specs.Lanes.{part_at}
use Rattle.key_wrap_lanes.proofs.Parts.{text_writes}
use Rattle.lane_runs.proofs.Placing.{Sets}
use Rattle.lane_runs.proofs.Gathering.{TextsGathered, text_open, text_closed, none_gathered}
use Rattle.lane_runs.proofs.rewraps.gather_lanes.Goals as goal
use Rattle.lane_runs.proofs.rewraps.gather_lanes.Goals.{then-may_be_new, else-may_be_new}

-- a place that was written
sets : (i v : ℕ) (xs : List ℕ) → i < length xs → Sets i v xs (slice_set xs i v)
sets i v xs inside = record {
  own = get_or-set_same xs i v 0 inside;
  other = λ j apart. get_or-set_other xs i j v 0 apart;
}

pub loop-from-init : goal.loop-from-init
loop-from-init c = none_gathered _ _ _ _ _

pub loop-from-preserved : goal.loop-from-preserved
loop-from-preserved c =
    let n : ℕ = c.args.text_len in
    let i : ℕ = c.loop-from.from in
    let lanes : List ℕ = c.loop-from.lanes in
    let places : List ℕ = c.loop-from.places in
    let tried : ℕ = c.loop-from.tried in
    let few : tried ≤ i = c.loop-from.invariant.few in
    let test : i < length c.args.statuses.now = c.loop-from-test.true in
    let same_places : length places ≡ length c.args.places.now = c.loop-from.auto.places in
    let same_lanes : length lanes ≡ length c.args.lanes.now = c.loop-from.auto.lanes in
    let in_places : i < length places = omega (arith, test, same_places, c.requires.places) in
    let here : get_or places i 0 ≡ get_or c.args.places.now i 0 = c.loop-from.invariant.left i (omega arith) in
    let whole : n * i + n - n * i ≡ n = omega arith in
    elim c.if-may_be_new.branch [
      | then-may_be_new w ↦
          let both = c.may_be_new.ensures.0 w.if-may_be_new.true in
          let all : length lanes ≡ n * length c.args.statuses.now = same_lanes ∙ c.requires.lanes ∙ c.requires.texts in
          let below : tried < length c.args.statuses.now = omega (arith, few, test) in
          let written = text_writes n tried (length c.args.statuses.now) lanes w.copy_from_slice.new.self w.copy_from_slice.auto.self below all in
          rw (w.lanes-is, w.places-is, w.tried-is)
          (text_open c.loop-from.invariant _ (sets i tried places in_places)
          (part_written written ∙ w.copy_from_slice.ensures.after ∙ ap (λ (k : ℕ). take k (drop (n * i) c.args.texts.now)) whole)
          (λ p apart. part_kept p written apart) (sym here ∙ both.0) both.1)
      | else-may_be_new w ↦
          rw (w.lanes-is, w.places-is, w.tried-is)
          (text_closed c.loop-from.invariant (sets i 48 places in_places)
          (λ they. false≢true (sym w.if-may_be_new.false ∙ c.may_be_new.ensures.1 (here ∙ they.0, they.1))))
    ]
