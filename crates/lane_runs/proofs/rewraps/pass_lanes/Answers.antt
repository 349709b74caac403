-- One lane after the other.
use Rattle.std.proofs.Common.{rules, ◌≡◌, ◌≢◌, ◌+◌, ◌*◌, ◌/◌, ◌-◌, ◌≤◌, ◌<◌, ℕ, List, length, get_or, arith, refl, ◌∙◌, get_or-set_other, get_or-set_same, below_more}
use Rattle.lane_runs.specs.Rewraps.{EndsPassing}
use Rattle.lane_runs.proofs.rewraps.pass_lanes.Goals as goal
use Rattle.lane_runs.proofs.rewraps.pass_lanes.Goals.{then-place-tried, else-place-tried}

pub loop-lane-preserved : goal.loop-lane-preserved
loop-lane-preserved c =
    let n : ℕ = c.args.text_len in
    let i : ℕ = c.loop-lane.lane in
    let statuses : List ℕ = c.loop-lane.statuses in
    let place : ℕ = get_or c.args.places.now i 0 in
    let test : i < length c.args.statuses.now = c.loop-lane-test.true in
    let same : length statuses ≡ length c.args.statuses.now = c.loop-lane.auto.statuses in
    let inside : i < length statuses = omega (arith, test, same) in
    let sixteen : 16 * place + 16 - 16 * place ≡ 16 = omega arith in
    let whole : n * place + n - n * place ≡ n = omega arith in
    elim c.if-place-tried.branch [
      | then-place-tried w ↦
          let front : place < c.args.tried = w.if-place-tried.true in
          let v : ℕ = w.pass_lane.result in
          let own : EndsPassing c.args.forms.now n c.args.lanes.now c.args.blocks.now place c.args.tried (get_or c.args.statuses.now i 0) v = record {
            passes = λ _. rw (sixteen, whole) at w.pass_lane.ensures;
            kept = λ no. absurd (no front);
          } in
          rw w.statuses-is
          (record {
            ended = below_more _ _
                (λ j less. let apart : j ≢ i = omega (arith, less) in rw (get_or-set_other statuses i j v 0 apart) (c.loop-lane.invariant.ended j less))
                (rw (get_or-set_same statuses i v 0 inside) own);
            left = λ j from.
                let apart : j ≢ i = omega (arith, from) in
                get_or-set_other statuses i j v 0 apart ∙ c.loop-lane.invariant.left j (omega (arith, from));
          })
      | else-place-tried w ↦
          let behind : c.args.tried ≤ place = w.if-place-tried.false in
          let own : EndsPassing c.args.forms.now n c.args.lanes.now c.args.blocks.now place c.args.tried (get_or c.args.statuses.now i 0) (get_or statuses i 0) =
          record { passes = λ front. absurd (omega (arith, front, behind)); kept = λ _. c.loop-lane.invariant.left i (omega arith) } in
          rw w.statuses-is
          (record {
            ended = below_more _ _ c.loop-lane.invariant.ended own;
            left = λ j from. c.loop-lane.invariant.left j (omega (arith, from));
          })
    ]
