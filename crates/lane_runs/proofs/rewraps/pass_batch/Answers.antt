-- A text that was refused is looked at under the new pair if that was requested.
use Rattle.std.proofs.Common.{rules, ◌≡◌, ℕ, ◌+◌, ◌-◌, ◌*◌, ◌/◌, ◌≤◌, ◌<◌, List, ◌++◌, length, take, drop, refl, sym, ap, ◌∙◌, arith, true, slice_index, length-take, length-drop, length-append}
use Rattle.std.proofs.Math.Nat.{mul-le-mul_left}
use Rattle.key_wrap_core.specs.Lengths.{IsPlainTextLength}
use Rattle.key_wrap_core.specs.Steps.{UnwrapState}
use Rattle.key_wrap_core.proofs.Parts.{part_room, part_length}
use Rattle.key_wrap_lanes.specs.Lanes.{AreLanes, block_at, part_at, registers_at}
use Rattle.lane_runs.specs.Rewraps.{PassesLane}
use Rattle.lane_runs.proofs.Fronts.{front_lanes, part_front, part_written_front}
use Rattle.lane_runs.proofs.Passing.{not_passed, passed}
use Rattle.lane_runs.proofs.rewraps.pass_batch.Goals as goal

pub undo_lanes-requires : goal.undo_lanes-requires
undo_lanes-requires g c =
    let long : length c.gather_lanes-tried.new.lanes ≡ length c.args.texts.now = search rules in
    let lanes : AreLanes c.args.text_len c.gather_lanes-tried.new.lanes c.args.blocks.now = rw long c.requires.lanes in
    let each : length c.args.statuses.now ≡ length c.args.blocks.now / 16 = c.requires.statuses in
    (front_lanes c.args.text_len c.gather_lanes-tried.result _ _ lanes (rw (← each) c.gather_lanes-tried.ensures.count)).0

pub returns : goal.returns
returns g c = λ i below.
    let F = g.B.BlockPair.encrypted c.args.new.now in
    let n : ℕ = c.args.text_len in
    let count : ℕ = length c.args.blocks.now / 16 in
    let text : List ℕ = part_at n i c.args.texts.now in
    let size : length text ≡ n =
    part_length n (n * i) n c.args.texts.now refl (part_room n i count (length c.args.texts.now) below c.requires.lanes.2) in
    let legal : IsPlainTextLength (length text) = rw size c.requires.lanes.0 in
    let asked : c.args.request.now.pass_new ≡ true = search rules in
    let each : length c.args.statuses.now ≡ count = c.requires.statuses in
    let tried : ℕ = c.gather_lanes-tried.result in
    let lanes : List ℕ = c.gather_lanes-tried.new.lanes in
    let blocks : List ℕ = c.args.blocks.now in
    let long : length lanes ≡ length c.args.texts.now = search rules in
    let are : AreLanes n lanes blocks = rw long c.requires.lanes in
    let few : tried ≤ length blocks / 16 = rw (← each) c.gather_lanes-tried.ensures.count in
    let front = front_lanes n tried lanes blocks are few in
    let undone : List ℕ = c.undo_lanes.new.texts in
    let undone' : List ℕ = c.undo_lanes.new.blocks in
    let room : n * tried ≤ length lanes = omega (arith, mul-le-mul_left n few, are.2) in
    let room' : 16 * tried ≤ length blocks = omega (arith, few) in
    let size' : length undone ≡ n * tried = omega (arith, c.undo_lanes.auto.texts, length-take (n * tried) lanes, room) in
    let size'' : length undone' ≡ 16 * tried = omega (arith, c.undo_lanes.auto.blocks, length-take (16 * tried) blocks, room') in
    let whole' : length (undone' ++ drop (16 * tried) blocks) ≡ length blocks =
    omega (arith, length-append undone' (drop (16 * tried) blocks), length-drop (16 * tried) blocks, size'', room') in
    let place : ℕ = slice_index c.gather_lanes-tried.new.places i in
    let gathered = c.gather_lanes-tried.ensures.gathered i (rw each below) in
    let ended = c.pass_lanes.ensures i (rw whole' below) in
    record {
      placed = λ other. ended.kept (λ in_front. absurd (omega (arith, in_front, gathered.placed other, few, c.requires.few)));
      refused = λ gone fault is E D inv has.
          passed _ inv (g.met.B.BlockPair.lawful c.args.new.now) legal asked
          (λ unfit. ended.kept (λ in_front. absurd (omega (arith, in_front, gathered.unfit unfit, few, c.requires.few))))
          (λ other.
          let there = gathered.gathered gone other in
          let in_front : place < tried = there.0 in
          let state : UnwrapState F text 0 (registers_at n place undone) (block_at place undone') =
          rw (part_front n place tried lanes in_front room ∙ there.1) at (c.undo_lanes.ensures place (rw front.1 in_front)) in
          let lane : PassesLane c.args.request.now.forms (part_at n place undone) (block_at place undone') (slice_index c.pass_lanes.new.statuses i) =
          rw (part_written_front n place tried undone (drop (n * tried) lanes) in_front size', part_written_front 16 place tried undone' (drop (16 * tried) blocks) in_front size'')
          at (ended.passes in_front) in
          (part_at n place undone, block_at place undone', lane, state)) fault is has;
    }
