-- One text after the other.
use Rattle.std.proofs.Common.{◌≡◌, ◌+◌, ◌*◌, ◌/◌, ◌-◌, ◌<◌, ℕ, List, length, arith, refl, get_or, ◌∙◌}
use Rattle.key_wrap_lanes.proofs.Parts.{text_writes}
use Rattle.lane_runs.proofs.Batches.{lane_next}
use Rattle.lane_runs.proofs.Fronts.{lane_left}
use Rattle.lane_runs.specs.Rewraps.{PutsLane}
use Rattle.lane_runs.proofs.rewraps.put_lanes.Goals as goal
use Rattle.lane_runs.proofs.rewraps.put_lanes.Goals.{then-place-wrapped, else-place-wrapped}

pub loop-lane-preserved : goal.loop-lane-preserved
loop-lane-preserved c =
    let n : ℕ = c.args.text_len in
    let i : ℕ = c.loop-lane.lane in
    let texts : List ℕ = c.loop-lane.texts in
    let same : length texts ≡ length c.args.texts.now = c.loop-lane.invariant.size in
    let test : i < length c.args.places.now = c.loop-lane-test.true in
    let each : length c.args.places.now ≡ length c.args.blocks.now / 16 = c.requires.places in
    let below : i < length c.args.blocks.now / 16 = omega arith in
    let all : length texts ≡ n * (length c.args.blocks.now / 16) = same ∙ c.requires.texts ∙ c.requires.lanes.2 in
    elim c.if-place-wrapped.branch [
      | then-place-wrapped w ↦
          let place : ℕ = get_or c.args.places.now i 0 in
          let front : place < c.args.wrapped = w.if-place-wrapped.true in
          let sixteen : 16 * place + 16 - 16 * place ≡ 16 = omega arith in
          let whole : n * place + n - n * place ≡ n = omega arith in
          let own : PutsLane n c.args.lanes.now c.args.blocks.now place c.args.wrapped _ w.put_lane.new.text = record {
            put = λ _. rw (sixteen, whole) at w.put_lane.ensures;
            kept = λ no. absurd (no front);
          } in
          rw w.texts-is
          (lane_next _ (text_writes n i (length c.args.blocks.now / 16) texts w.put_lane.new.text w.put_lane.auto.text below all)
          c.loop-lane.invariant (λ j less x y before. before) own)
      | else-place-wrapped w ↦ rw w.texts-is
          (lane_left c.loop-lane.invariant (record { put = λ front. absurd (omega (arith, front, w.if-place-wrapped.false)); kept = λ _. refl }))
    ]
