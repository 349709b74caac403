-- Each lane was wrapped under the new pair, or its text was refused.
use Rattle.std.proofs.Common.{rules, ◌≡◌, ℕ, ◌*◌, ◌/◌, ◌≤◌, ◌<◌, List, length, take, drop, refl, sym, ap, subst, ap₂, ◌∙◌, arith, inl, inr, slice_index, length-take, length-drop, length-append, ◌++◌, ◌+◌}
use Rattle.std.proofs.Math.Nat.{mul-le-mul_left}
use Rattle.key_wrap_core.specs.BlockCalls.{block_calls}
use Rattle.key_wrap_core.specs.Steps.{WrapState, UnwrapState}
use Rattle.key_wrap_core.specs.Rewrap.{IsOldLength, IsRewrapping}
use Rattle.key_wrap_core.proofs.Parts.{part_room, part_length}
use Rattle.key_wrap_lanes.specs.Lanes.{AreLanes, block_at, part_at, registers_at}
use Rattle.key_wrap_steps.specs.RewrapPhases.{LeadsTo}
use Rattle.key_wrap_steps.proofs.RewrapPhaseEnds.{led}
use Rattle.lane_runs.specs.Rewraps.{RewrapsText}
use Rattle.lane_runs.proofs.Fronts.{front_lanes, part_front, part_written_front, old_legal}
use Rattle.lane_runs.proofs.rewraps.rewrap_batch.Goals as goal

pub undo_lanes-requires : goal.undo_lanes-requires
undo_lanes-requires g c = rw c.copy_from_slice.ensures.after c.requires.lanes

pub place_lanes-wrapped-requires-clause-lanes : goal.place_lanes-wrapped-requires-clause-lanes
place_lanes-wrapped-requires-clause-lanes g c =
    let long : length c.undo_lanes.new.texts ≡ length c.args.texts.now = search rules in
    let same : length c.undo_lanes.new.blocks ≡ length c.args.blocks.now = search rules in
    rw (same, long) c.requires.lanes

pub make_steps-requires : goal.make_steps-requires
make_steps-requires g c =
    let long : length c.place_lanes-wrapped.new.lanes ≡ length c.args.texts.now = search rules in
    let same : length c.place_lanes-wrapped.new.blocks ≡ length c.args.blocks.now = search rules in
    let kept : length c.undo_lanes.new.blocks ≡ length c.args.blocks.now = search rules in
    let lanes : AreLanes c.args.text_len c.place_lanes-wrapped.new.lanes c.place_lanes-wrapped.new.blocks = rw (same, long) c.requires.lanes in
    (front_lanes c.args.text_len c.place_lanes-wrapped.result _ _ lanes (rw (same ∙ sym kept) c.place_lanes-wrapped.ensures.count)).0

pub returns-clause-rewrapped : goal.returns-clause-rewrapped
returns-clause-rewrapped g c = λ i below.
    let E = g.O.BlockPair.encrypted c.args.old.now in
    let D = g.O.BlockPair.decrypted c.args.old.now in
    let F = g.N.BlockPair.encrypted c.args.new.now in
    let G = g.N.BlockPair.decrypted c.args.new.now in
    let inv = g.met.O.BlockPair.lawful c.args.old.now in
    let inv' = g.met.N.BlockPair.lawful c.args.new.now in
    let pass_new = c.args.request.now.pass_new in
    let forms = c.args.request.now.forms in
    let n : ℕ = c.args.text_len in
    let count : ℕ = length c.args.blocks.now / 16 in
    let text : List ℕ = part_at n i c.args.texts.now in
    let size : length text ≡ n =
    part_length n (n * i) n c.args.texts.now refl (part_room n i count (length c.args.texts.now) below c.requires.lanes.2) in
    let old_length : IsOldLength forms (length text) = rw size (old_legal forms n c.requires.lanes.0) in
    let same : length c.undo_lanes.new.blocks ≡ length c.args.blocks.now = search rules in
    let state : UnwrapState E text 0 (registers_at n i c.undo_lanes.new.texts) (block_at i c.undo_lanes.new.blocks) =
    rw c.copy_from_slice.ensures.after at (c.undo_lanes.ensures i below) in
    let lanes : List ℕ = c.place_lanes-wrapped.new.lanes in
    let blocks : List ℕ = c.place_lanes-wrapped.new.blocks in
    let long : length lanes ≡ length c.args.texts.now = search rules in
    let same' : length blocks ≡ length c.args.blocks.now = search rules in
    let are : AreLanes n lanes blocks = rw (same', long) c.requires.lanes in
    let wrapped : ℕ = c.place_lanes-wrapped.result in
    let few : wrapped ≤ length blocks / 16 = rw (same' ∙ sym same) c.place_lanes-wrapped.ensures.count in
    let front = front_lanes n wrapped lanes blocks are few in
    let texts : List ℕ = c.put_lanes.new.texts in
    let stepped : List ℕ = c.make_steps.new.texts in
    let stepped' : List ℕ = c.make_steps.new.blocks in
    let room : n * wrapped ≤ length lanes = omega (arith, mul-le-mul_left n few, are.2) in
    let room' : 16 * wrapped ≤ length blocks = omega (arith, few) in
    let size' : length stepped ≡ n * wrapped = omega (arith, c.make_steps.auto.texts, length-take (n * wrapped) lanes, room) in
    let size'' : length stepped' ≡ 16 * wrapped = omega (arith, c.make_steps.auto.blocks, length-take (16 * wrapped) blocks, room') in
    let whole : length (stepped ++ drop (n * wrapped) lanes) ≡ length c.args.texts.now =
    omega (arith, length-append stepped (drop (n * wrapped) lanes), length-drop (n * wrapped) lanes, size', room, long) in
    let whole' : length (stepped' ++ drop (16 * wrapped) blocks) ≡ length c.args.blocks.now =
    omega (arith, length-append stepped' (drop (16 * wrapped) blocks), length-drop (16 * wrapped) blocks, size'', room', same') in
    let put = c.put_lanes.ensures i (rw whole' below) in
    let pass = c.pass_batch.ensures i (rw whole' below) in
    elim (c.place_lanes-wrapped.ensures.placed i (rw same below)) [
      | inl (in_front, fits) ↦
          let place : ℕ = slice_index c.place_lanes-wrapped.new.places i in
          let leads = fits.ends_phase pass_new text E D F G inv inv' (old_length, state) in
          let begun : WrapState F leads.iv leads.key 0 (registers_at n place (take (n * wrapped) lanes)) (block_at place (take (16 * wrapped) blocks)) =
          rw (part_front n place wrapped lanes in_front room, part_front 16 place wrapped blocks in_front room') leads.state in
          let made = c.make_steps.ensures place (rw front.1 in_front) leads.iv leads.key begun in
          let part : length (part_at n place stepped) ≡ n =
          part_length n (n * place) n stepped refl (part_room n place wrapped (length stepped) in_front size') in
          let calls : block_calls n ≡ block_calls (8 + length (drop 8 (part_at n place stepped))) =
          ap block_calls (omega (arith, part, length-drop 8 (part_at n place stepped), c.requires.lanes.0.1)) in
          let leads' : LeadsTo F (IsRewrapping pass_new forms E F text fits.outcome) (block_calls n) (drop 8 (part_at n place stepped)) (block_at place stepped') =
          record { iv = leads.iv; key = leads.key; state = made; ends = leads.ends } in
          let put_front : take 8 (block_at place (stepped' ++ drop (16 * wrapped) blocks)) ++ drop 8 (part_at n place (stepped ++ drop (n * wrapped) lanes))
          ≡ take 8 (block_at place stepped') ++ drop 8 (part_at n place stepped) =
          ap₂ (λ (b t : List ℕ). take 8 b ++ drop 8 t) (part_written_front 16 place wrapped stepped' (drop (16 * wrapped) blocks) in_front size'')
          (part_written_front n place wrapped stepped (drop (n * wrapped) lanes) in_front size') in
          let apart : ¬ (place ≡ 48) = λ e. absurd (omega (arith, e, in_front, few, c.requires.few, same')) in
          record {
            result = fits.outcome;
            rewraps = subst (IsRewrapping pass_new forms E F text fits.outcome) (sym (put.put in_front ∙ put_front)) (led leads' calls);
            status_is = pass.placed apart ∙ fits.status_is;
          }
      | inr (gone, refused) ↦
          let none : ¬ (slice_index c.place_lanes-wrapped.new.places i < wrapped) = λ e. absurd (omega (arith, e, gone, few, c.requires.few, same')) in
          let kept : part_at n i texts ≡ text = put.kept none in
          subst (λ (t : List ℕ). RewrapsText pass_new forms E F t (part_at n i texts) (slice_index c.pass_batch.new.statuses i)) kept
          (pass.refused gone refused.fault refused.status_is E D inv (rw kept (refused.has_fault E D text inv old_length state)))
    ]
