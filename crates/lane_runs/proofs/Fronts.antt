-- The first lanes of a batch, which are wrapped, and what is written of them.
use Rattle.std.proofs.Common.{◌≡◌, ℕ, ◌+◌, ◌-◌, ◌*◌, ◌/◌, ◌≤◌, ◌<◌, min, List, ◌++◌, length, take, drop, refl, sym, ap, ap₂, ◌∙◌, arith, length-take, length-append, length-drop, inl, inr}
use Rattle.std.proofs.lemmas.Bool.{cases_lt}
use Rattle.std.proofs.lemmas.List.{take_at, take-append-drop}
use Rattle.std.proofs.lemmas.Slice.{take-put_mid_below}
use Rattle.std.proofs.Math.Nat.{mul-le-mul_left}
use borrow.Rule.Slice.PartMut.{put_mid}
use Rattle.key_wrap_core.specs.declared.rewrapping.RewrapForms.{RewrapForms}
use Rattle.key_wrap_core.specs.declared.rewrapping.RewrapForms.TheVariants.{Kept, Changed}
use Rattle.key_wrap_core.specs.declared.agreed_form.AgreedForm.{AgreedForm}
use Rattle.key_wrap_core.specs.declared.agreed_form.AgreedForm.TheVariants as agreed
use Rattle.key_wrap_core.specs.declared.forms.Form.TheVariants as forms
use Rattle.key_wrap_core.specs.Forms.{IsTextLengthAs}
use Rattle.key_wrap_core.specs.Lengths.{IsPlainTextLength}
use Rattle.key_wrap_core.specs.Plain.{default_iv}
use Rattle.key_wrap_core.specs.Rewrap.{IsOldLength, to_itself}
use Rattle.key_wrap_core.proofs.InPlaceForm.{registers_now}
use Rattle.key_wrap_lanes.specs.Lanes.{AreLanes, part_at}
use Rattle.lane_runs.proofs.Batches.{PartsDone, part_before, within, batch_written}

-- the first lanes and their blocks
pub front_lanes : (n w : ℕ) (lanes blocks : List ℕ) → AreLanes n lanes blocks → w ≤ length blocks / 16
    → AreLanes n (take (n * w) lanes) (take (16 * w) blocks) × (length (take (16 * w) blocks) / 16 ≡ w)
front_lanes n w lanes blocks h few =
    let whole = h.1 in
    let all = h.2 in
    let most : n * w ≤ n * (length blocks / 16) = mul-le-mul_left n few in
    let size : length (take (16 * w) blocks) ≡ 16 * w = omega (arith, length-take (16 * w) blocks, few) in
    let count : length (take (16 * w) blocks) / 16 ≡ w = omega (arith, size) in
    let long : length (take (n * w) lanes) ≡ n * w = omega (arith, length-take (n * w) lanes, most, all) in
    ((h.0, omega (arith, size), rw count long), count)

-- one of them
pub part_front : (n p w : ℕ) (xs : List ℕ) → p < w → n * w ≤ length xs → part_at n p (take (n * w) xs) ≡ part_at n p xs
part_front n p w xs below room =
    sym (part_before n p (take (n * w) xs) (drop (n * w) xs) (omega (arith, within n p w below, length-take (n * w) xs)))
    ∙ ap (part_at n p) (take-append-drop (n * w) xs)

-- one of them, as they are written
pub part_written_front : (n p w : ℕ) (ys rest : List ℕ) → p < w → length ys ≡ n * w → part_at n p (ys ++ rest) ≡ part_at n p ys
part_written_front n p w ys rest below size = part_before n p ys rest (omega (arith, within n p w below, size))

-- the first word and the registers are written over a text
pub put_both : (text lane block first : List ℕ) → 8 ≤ length text → length lane ≡ length text → length block ≡ 16
    → first ≡ take 8 block ++ drop 8 text → put_mid 8 (length first - 8) first (drop 8 lane) ≡ take 8 block ++ drop 8 lane
put_both text lane block first some same sixteen is =
    let eight : length (take 8 block) ≡ 8 = omega (arith, length-take 8 block, sixteen) in
    let whole : length first ≡ length text = ap length is ∙ omega (arith, length-append (take 8 block) (drop 8 text), length-drop 8 text, eight) in
    let new : List ℕ = put_mid 8 (length first - 8) first (drop 8 lane) in
    let begin : take 8 new ≡ take 8 block =
    take-put_mid_below 8 (length first - 8) first (drop 8 lane) 8 (omega arith) (omega (arith, whole)) ∙ ap (take 8) is ∙ take_at (take 8 block) (drop 8 text) 8 eight in
    let rest : drop 8 new ≡ drop 8 lane = registers_now first (drop 8 lane) (omega (arith, whole)) (omega (arith, whole, same, length-drop 8 lane)) in
    sym (take-append-drop 8 new) ∙ ap₂ (λ (a b : List ℕ). a ++ b) begin rest

-- a text is left as it was
pub lane_left : {S : ℕ → List ℕ → List ℕ → Type 0} {n i : ℕ} {xs xs' : List ℕ} → PartsDone S n i xs xs' → S i (part_at n i xs) (part_at n i xs)
    → PartsDone S n (i + 1) xs xs'
lane_left {i = i} h own = record {
  done = λ j below. elim (cases_lt j i) [
    | inl less ↦ h.done j less
    | inr from ↦
        let here : j ≡ i = omega (arith, from, below) in
        rw (here, h.left i (omega arith)) own
  ];
  left = λ j from. h.left j (omega (arith, from));
  size = h.size;
}

-- the length of a plain text is legal in every form
legal_as : (form : AgreedForm) (len : ℕ) → IsPlainTextLength len → IsTextLengthAs form len
legal_as (agreed.Plain iv) len legal = legal
legal_as agreed.Padded len legal = (legal.0, omega (arith, legal.1), legal.2)

pub old_legal : (forms : RewrapForms) (len : ℕ) → IsPlainTextLength len → IsOldLength forms len
old_legal Kept len legal = (agreed.Plain default_iv, (forms.Plain, refl), legal)
old_legal (Changed old new) len legal = (old, refl, legal_as old len legal)

pub itself_legal : (forms : RewrapForms) (len : ℕ) → IsPlainTextLength len → IsOldLength (to_itself forms) len
itself_legal Kept len legal = (agreed.Plain default_iv, (forms.Plain, refl), legal)
itself_legal (Changed old new) len legal = (new, refl, legal_as new len legal)

-- the copies of the texts of a batch
pub batch_copies : (n count batch last : ℕ) (texts copies : List ℕ) → batch < count / 48 + 1 → last ≡ min count (48 * batch + 48)
    → length texts ≡ n * count → n ≤ 264 → length copies ≡ 12672
    → length (take (n * (last - 48 * batch)) copies) ≡ length (take (n * last - n * (48 * batch)) (drop (n * (48 * batch)) texts))
batch_copies n count batch last texts copies more last_is whole short room =
    let m : ℕ = last - 48 * batch in
    let few : m ≤ 48 = omega (arith, last_is) in
    let most : n * m ≤ n * 48 = mul-le-mul_left n few in
    let given = batch_written n count batch last texts (take (n * last - n * (48 * batch)) (drop (n * (48 * batch)) texts)) more last_is whole refl in
    let size : length (take (n * last - n * (48 * batch)) (drop (n * (48 * batch)) texts)) ≡ n * m = given.size in
    omega (arith, length-take (n * m) copies, most, short, room, size)
