-- One slot after the other.
use Rattle.std.proofs.Common.{◌≡◌, ◌≢◌, ℕ, ◌+◌, ◌*◌, ◌-◌, ◌<◌, ◌≤◌, List, length, take, drop, arith, rules, ap, sym, refl, pos, ◌∙◌, get_or-set_other, get_or-set_same, below_more}
use mir.Syntax.{w32}
use mir.Val.{SFits}
use Rattle.keywrap_calls.specs.Many.{slot_at}
use Rattle.keywrap_calls.proofs.CallPromises.{passed_on}
use Rattle.key_wrap_core.proofs.Parts.{part_room, part_length}
use Rattle.keywrap_calls.proofs.Slots.{some_kek, some_kek_legal, status_passed, scratch_cleared}
use Rattle.keywrap_calls.proofs.many_kinds.kind_slots.Goals as goal

pub status_byte-requires : goal.status_byte-requires
status_byte-requires g c =
    let fits : SFits w32 c.kind_under-status.result = search rules in
    status_passed fits (c.kind_under-status.ensures.finds some_kek some_kek_legal).statuses

pub loop-slot-preserved : goal.loop-slot-preserved
loop-slot-preserved g c =
    let len : ℕ = length c.args.scratch.now + 8 in
    let i : ℕ = c.loop-slot.slot in
    let texts : List ℕ = c.args.texts.now in
    let below : i < length c.args.statuses.now = c.loop-slot-test.true in
    let forms : length c.loop-slot.forms ≡ length c.args.forms.now = c.loop-slot.auto.forms in
    let key_lens : length c.loop-slot.key_lens ≡ length c.args.key_lens.now = c.loop-slot.auto.key_lens in
    let statuses : length c.loop-slot.statuses ≡ length c.args.statuses.now = c.loop-slot.auto.statuses in
    let as_forms : length c.args.forms.now ≡ length c.args.statuses.now = c.requires.forms in
    let as_lens : length c.args.key_lens.now ≡ length c.args.statuses.now = c.requires.lens in
    let in_forms : i < length c.loop-slot.forms = omega arith in
    let in_lens : i < length c.loop-slot.key_lens = omega arith in
    let in_statuses : i < length c.loop-slot.statuses = omega arith in
    let room : len * i + len ≤ length texts = part_room len i (length c.args.statuses.now) (length texts) below c.requires.slots in
    let whole : len * i + len - len * i ≡ len = omega arith in
    let size : length (take (len * i + len - len * i) (drop (len * i) texts)) ≡ len = part_length len (len * i) (len * i + len - len * i) texts whole room in
    let text : take (len * i + len - len * i) (drop (len * i) texts) ≡ slot_at len i texts = ap (λ (k : ℕ). take k (drop (len * i) texts)) whole in
    let fits : SFits w32 c.kind_under-status.result = search rules in
    let status : c.kind_under-status.result ≡ pos c.status_byte.result = sym (passed_on fits refl) ∙ c.status_byte.ensures in
    let scratch : length c.loop-slot.scratch ≡ length c.args.scratch.now = c.loop-slot.auto.scratch in
    record {
      found = below_more _ _
          (λ j less kek legal. let apart : j ≢ i = omega arith in
          rw (
            get_or-set_other c.loop-slot.forms i j c.kind_under-status.new.padded 0 apart,
            get_or-set_other c.loop-slot.key_lens i j c.kind_under-status.new.key_len 0 apart,
            get_or-set_other c.loop-slot.statuses i j c.status_byte.result 0 apart,
          ) (c.loop-slot.invariant.found j less kek legal))
          (λ kek legal.
          rw (
            get_or-set_same c.loop-slot.forms i c.kind_under-status.new.padded 0 in_forms,
            get_or-set_same c.loop-slot.key_lens i c.kind_under-status.new.key_len 0 in_lens,
            get_or-set_same c.loop-slot.statuses i c.status_byte.result 0 in_statuses,
          )
          (record {
            before = c.loop-slot.scratch;
            after = c.kind_under-status.new.scratch;
            room = ap length (sym text) ∙ size ∙ ap (λ (n : ℕ). n + 8) (sym scratch);
            call = rw (text, status) at (c.kind_under-status.ensures.finds kek legal);
          }));
      cleared = λ _. scratch_cleared _ some_kek _ _ _ _ _ _ (c.kind_under-status.ensures.finds some_kek some_kek_legal) some_kek_legal
          (rw size c.requires.legal) (rw size (omega arith));
    }
