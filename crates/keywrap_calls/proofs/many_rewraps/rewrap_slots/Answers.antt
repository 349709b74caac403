-- One slot after the other.
use Rattle.std.proofs.Common.{◌≡◌, ◌≢◌, ℕ, ◌+◌, ◌*◌, ◌-◌, ◌<◌, ◌≤◌, List, length, arith, rules, ◌∙◌, get_or-set_other, get_or-set_same}
use Rattle.key_wrap_core.proofs.Parts.{part_room, part_length}
use Rattle.keywrap_calls.proofs.Slots.{no_slot, slot_next}
use Rattle.keywrap_calls.proofs.many_rewraps.rewrap_slots.Goals as goal

pub loop-slot-init : goal.loop-slot-init
loop-slot-init g c = no_slot _ _ _

pub loop-slot-preserved : goal.loop-slot-preserved
loop-slot-preserved g c =
    let len : ℕ = c.args.len in
    let i : ℕ = c.loop-slot.slot in
    let texts : List ℕ = c.loop-slot.texts in
    let text : List ℕ = c.rewrap_slot.new.text in
    let below : i < length c.args.statuses.now = c.loop-slot-test.true in
    let same : length texts ≡ length c.args.texts.now = c.loop-slot.auto.texts in
    let same' : length c.loop-slot.statuses ≡ length c.args.statuses.now = c.loop-slot.auto.statuses in
    let here : i < length c.loop-slot.statuses = omega arith in
    let room : len * i + len ≤ length texts = part_room len i (length c.args.statuses.now) (length texts) below (same ∙ c.requires) in
    let whole : len * i + len - len * i ≡ len = omega arith in
    let size : length text ≡ len = c.rewrap_slot.auto.text ∙ part_length len (len * i) (len * i + len - len * i) texts whole room in
    slot_next _ _ (len * i + len - len * i) text whole size room c.loop-slot.invariant
    (λ j less a b before old_kek new_kek flags keks asked. let apart : j ≢ i = omega arith in rw get_or-set_other (before old_kek new_kek flags keks asked))
    (λ old_kek new_kek flags keks asked. rw get_or-set_same (c.rewrap_slot.ensures old_kek new_kek flags keks asked))

pub returns : goal.returns
returns g c = λ old_kek new_kek flags keks asked i below.
    let end : length c.args.statuses.now ≤ c.loop-slot.slot = search rules in
    c.loop-slot.invariant.done i (omega (arith, below, end)) old_kek new_kek flags keks asked
