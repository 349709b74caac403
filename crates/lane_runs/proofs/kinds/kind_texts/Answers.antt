-- One batch after the other, each over as many texts as blocks, forms, lengths and statuses.
use Rattle.std.proofs.Common.{rules, ◌≡◌, ℕ, ◌+◌, ◌*◌, ◌/◌, ◌-◌, ◌<◌, List, length, take, drop, min, get_or, arith, length-take, length-drop, refl, subst, ◌∙◌, inl, inr}
use Rattle.std.proofs.lemmas.Bool.{cases_lt}
use borrow.Rule.Slice.PartMut.{put_mid}
use Rattle.lane_runs.proofs.Batches.{batch_lanes, batch_written, part_given, get_before, get_within}
use Rattle.lane_runs.proofs.Fronts.{batch_copies}
use Rattle.key_wrap_lanes.specs.Lanes.{part_at}
use Rattle.lane_runs.specs.Kinds.{FindsText}
use Rattle.lane_runs.proofs.kinds.kind_texts.Goals as goal

pub kind_batch-requires-clause-lanes : goal.kind_batch-requires-clause-lanes
kind_batch-requires-clause-lanes g c =
    let more : c.loop-batch.batch < length c.args.statuses.now / 48 + 1 = search rules in
    let lanes = batch_lanes c.args.text_len (length c.args.statuses.now) c.loop-batch.batch c.min-last.result c.args.texts.now c.loop-batch.blocks
    more (search rules) c.requires.whole (search rules) in
    (c.requires.legal, lanes.0, lanes.1)

pub loop-batch-preserved : goal.loop-batch-preserved
loop-batch-preserved g c =
    let E = g.B.BlockPair.encrypted c.args.pair.now in
    let n : ℕ = c.args.text_len in
    let count : ℕ = length c.args.statuses.now in
    let batch : ℕ = c.loop-batch.batch in
    let first : ℕ = 48 * batch in
    let last : ℕ = c.min-last.result in
    let m : ℕ = last - first in
    let texts : List ℕ = c.args.texts.now in
    let forms : List ℕ = c.loop-batch.forms in
    let lens : List ℕ = c.loop-batch.key_lens in
    let statuses : List ℕ = c.loop-batch.statuses in
    let more : batch < count / 48 + 1 = search rules in
    let last_is : last ≡ min count (first + 48) = search rules in
    let from : min first count ≡ first = omega (arith, more) in
    let to : first + m ≡ min (48 * (batch + 1)) count = omega (arith, more, last_is) in
    let room : length c.loop-batch.blocks ≡ 768 = search rules in
    let same_forms : length forms ≡ count = c.loop-batch.auto.forms ∙ c.requires.forms in
    let same_lens : length lens ≡ count = c.loop-batch.auto.key_lens ∙ c.requires.lens in
    let same_statuses : length statuses ≡ count = c.loop-batch.auto.statuses in
    let some : length (take (16 * m) c.loop-batch.blocks) / 16 ≡ m = omega (arith, more, last_is, length-take (16 * m) c.loop-batch.blocks, room) in
    let forms_now : length c.kind_batch.new.forms ≡ m =
    omega (arith, c.kind_batch.auto.forms, length-take (last - first) (drop first forms), length-drop first forms, same_forms, last_is, more) in
    let lens_now : length c.kind_batch.new.key_lens ≡ m =
    omega (arith, c.kind_batch.auto.key_lens, length-take (last - first) (drop first lens), length-drop first lens, same_lens, last_is, more) in
    let statuses_now : length c.kind_batch.new.statuses ≡ m =
    omega (arith, c.kind_batch.auto.statuses, length-take (last - first) (drop first statuses), length-drop first statuses, same_statuses, last_is, more) in
    let given = batch_written n count batch last texts (take (n * last - n * first) (drop (n * first) texts)) more last_is c.requires.whole refl in
    let forms' : List ℕ = put_mid first (last - first) forms c.kind_batch.new.forms in
    let lens' : List ℕ = put_mid first (last - first) lens c.kind_batch.new.key_lens in
    let statuses' : List ℕ = put_mid first (last - first) statuses c.kind_batch.new.statuses in
    λ j below. elim (cases_lt j first) [
      | inl less ↦
          rw (
            get_before first (last - first) j forms c.kind_batch.new.forms less (omega (arith, same_forms, more)),
            get_before first (last - first) j lens c.kind_batch.new.key_lens less (omega (arith, same_lens, more)),
            get_before first (last - first) j statuses c.kind_batch.new.statuses less (omega (arith, same_statuses, more)),
          ) (c.loop-batch.invariant j (omega (arith, from, less)))
      | inr behind ↦
          let i : ℕ = j - first in
          let inside : i < m = omega (arith, below, to, behind) in
          let here : first + i ≡ j = omega (arith, behind) in
          subst (λ (l : ℕ). FindsText E (part_at n l texts) (get_or forms' l 0) (get_or lens' l 0) (get_or statuses' l 0)) here
          (rw (
            get_within first (last - first) i forms c.kind_batch.new.forms (omega (arith, inside, forms_now)) (omega (arith, same_forms, more)),
            get_within first (last - first) i lens c.kind_batch.new.key_lens (omega (arith, inside, lens_now)) (omega (arith, same_lens, more)),
            get_within first (last - first) i statuses c.kind_batch.new.statuses (omega (arith, inside, statuses_now)) (omega (arith, same_statuses, more)),
          ) (rw (part_given i given inside) at (c.kind_batch.ensures.found i (rw some inside))))
    ]

pub kind_batch-requires-clause-copies : goal.kind_batch-requires-clause-copies
kind_batch-requires-clause-copies g c =
    let n : ℕ = c.args.text_len in
    let count : ℕ = length c.args.statuses.now in
    let batch : ℕ = c.loop-batch.batch in
    let last : ℕ = c.min-last.result in
    let texts : List ℕ = c.args.texts.now in
    let more : batch < count / 48 + 1 = search rules in
    let last_is : last ≡ min count (48 * batch + 48) = search rules in
    let room : length c.loop-batch.copies ≡ 12672 = search rules in
    batch_copies n count batch last texts c.loop-batch.copies more last_is c.requires.whole c.requires.short room
