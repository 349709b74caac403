-- What holds of each part of a buffer, while one part after the other is written.
use Rattle.std.proofs.Common.{◌≡◌, ℕ, ◌+◌, ◌-◌, ◌*◌, ◌≤◌, ◌<◌, List, length, take, drop, refl, ◌∙◌, arith, inl, inr}
use Rattle.std.proofs.lemmas.Bool.{cases_lt}
use borrow.Rule.Slice.PartMut.{put_mid}
use Rattle.key_wrap_core.proofs.Parts.{Writes, part_written, part_kept, part_room, part_length}
use Rattle.key_wrap_lanes.specs.Lanes.{part_at}

-- what holds of the parts before one, and of that one as it is written, holds of the parts before the next
pub parts_next : (P : ℕ → List ℕ → Type 0) {n i a k : ℕ} {xs ys : List ℕ} → Writes n i a k xs ys
    → ((j : ℕ) → j < i → P j (part_at n j xs)) → P i ys → (j : ℕ) → j < i + 1 → P j (part_at n j (put_mid a k xs ys))
parts_next P {i = i} w before own j below =
    elim (cases_lt j i) [
      | inl less ↦
          let apart : ¬ (j ≡ i) = λ e. absurd (omega (arith, e, less)) in
          rw (part_kept j w apart) (before j less)
      | inr from ↦
          let same : j ≡ i = omega arith in
          rw (same, part_written w) own
    ]

-- and the parts from the next on are as they were
pub parts_left : {n i a k : ℕ} {xs' ys : List ℕ} (xs : List ℕ) → Writes n i a k xs' ys → ((j : ℕ) → i ≤ j → part_at n j xs' ≡ part_at n j xs)
    → (j : ℕ) → i + 1 ≤ j → part_at n j (put_mid a k xs' ys) ≡ part_at n j xs
parts_left xs w left j from = part_kept j w (λ e. absurd (omega (arith, e, from))) ∙ left j (omega arith)

-- In two buffers the parts before one are changed, each by S from what they were to what they are, and the others are as they were.
pub record PartsChanged (S : ℕ → (x y x' y' : List ℕ) → Type 0) (n m i : ℕ) (xs ys xs' ys' : List ℕ) : Type 0 where
  pub changed : (j : ℕ) → j < i → S j (part_at n j xs) (part_at m j ys) (part_at n j xs') (part_at m j ys')
  pub left : (j : ℕ) → i ≤ j → part_at n j xs' ≡ part_at n j xs
  pub left' : (j : ℕ) → i ≤ j → part_at m j ys' ≡ part_at m j ys

pub part_next : {S : ℕ → (x y x' y' : List ℕ) → Type 0} {n m i a k b l : ℕ} {xs ys xs' ys' x y : List ℕ} → PartsChanged S n m i xs ys xs' ys'
    → Writes n i a k xs' x → Writes m i b l ys' y → S i (take k (drop a xs')) (take l (drop b ys')) x y
    → PartsChanged S n m (i + 1) xs ys (put_mid a k xs' x) (put_mid b l ys' y)
part_next {S = S} {n = n} {m = m} {i = i} {a = a} {k = k} {b = b} {l = l} {xs = xs} {ys = ys} {xs' = xs'} {ys' = ys'} {x = x} {y = y} h w v last =
    let here : i ≤ i = omega arith in
    let given : take k (drop a xs') ≡ part_at n i xs = rw (w.whole, w.place) (h.left i here) in
    let given' : take l (drop b ys') ≡ part_at m i ys = rw (v.whole, v.place) (h.left' i here) in
    let own : S i (part_at n i xs) (part_at m i ys) x y = rw (given, given') at last in
    record {
      changed = λ j below. elim (cases_lt j i) [
        | inl less ↦
            let apart : ¬ (j ≡ i) = λ e. absurd (omega (arith, e, less)) in
            rw (part_kept j w apart, part_kept j v apart) (h.changed j less)
        | inr from ↦
            let same : j ≡ i = omega arith in
            rw (same, part_written w, part_written v) own
      ];
      left = parts_left xs w h.left;
      left' = parts_left ys v h.left';
    }

-- a block is written
pub block_writes : (i : ℕ) (blocks block : List ℕ) → length block ≡ length (take (16 * i + 16 - 16 * i) (drop (16 * i) blocks))
    → 16 * i + 16 ≤ length blocks → Writes 16 i (16 * i) (16 * i + 16 - 16 * i) blocks block
block_writes i blocks block kept room =
    let sixteen : 16 * i + 16 - 16 * i ≡ 16 = omega arith in record {
      place = refl;
      whole = sixteen;
      size = kept ∙ part_length 16 (16 * i) (16 * i + 16 - 16 * i) blocks sixteen room;
      room = room;
    }

-- a text of n bytes, one of `count` in the buffer
pub text_writes : (n i count : ℕ) (texts text : List ℕ) → length text ≡ length (take (n * i + n - n * i) (drop (n * i) texts))
    → i < count → length texts ≡ n * count → Writes n i (n * i) (n * i + n - n * i) texts text
text_writes n i count texts text kept below all =
    let whole : n * i + n - n * i ≡ n = omega arith in
    let room : n * i + n ≤ length texts = part_room n i count (length texts) below all in
    record {
      place = refl;
      whole = whole;
      size = kept ∙ part_length n (n * i) (n * i + n - n * i) texts whole room;
      room = room;
    }
