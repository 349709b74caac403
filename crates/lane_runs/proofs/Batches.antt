-- The texts of a buffer, while those of one batch after the other are written.
use Rattle.std.proofs.Common.{◌≡◌, ℕ, ◌+◌, ◌-◌, ◌*◌, ◌/◌, ◌%◌, ◌≤◌, ◌<◌, min, List, ◌++◌, ◌⊎◌, length, take, drop, get_or, refl, sym, ap, subst, ◌∙◌, arith, inl, inr}
use Rattle.std.proofs.Common.{length-append, length-drop, length-take}
use Rattle.std.proofs.lemmas.Bool.{cases_lt}
use Rattle.std.proofs.lemmas.List.{drop_at, drop-drop, drop-take, drop-append-le, take-append-le, take-append-drop}
use Rattle.std.proofs.lemmas.Slice.{take-put_mid_below, drop-put_mid}
use Rattle.std.proofs.Math.Nat.{mul-add, mul-le-mul_left}
use borrow.Rule.Slice.PartMut.{put_mid}
use Rattle.std.proofs.lemmas.List.{get_or-append_right, get_or-take}
use Rattle.std.proofs.Math.ListN.{get_or-append}
use Rattle.key_wrap_core.proofs.Parts.{Writes, part_written, part_kept}
use Rattle.key_wrap_lanes.specs.Lanes.{part_at}

-- The parts before one are done, each by S from what it was to what it is, and the others are as they were.
pub record PartsDone (S : ℕ → List ℕ → List ℕ → Type 0) (n i : ℕ) (xs xs' : List ℕ) : Type 0 where
  pub done : (j : ℕ) → j < i → S j (part_at n j xs) (part_at n j xs')
  pub left : (j : ℕ) → i ≤ j → part_at n j xs' ≡ part_at n j xs
  pub size : length xs' ≡ length xs

pub none_done : (S : ℕ → List ℕ → List ℕ → Type 0) (n : ℕ) (xs : List ℕ) → PartsDone S n 0 xs xs
none_done S n xs = record { done = λ j below. absurd (omega arith); left = λ j from. refl; size = refl }

-- a part within the first bytes of a buffer
pub part_before : (n i : ℕ) (xs ys : List ℕ) → n * i + n ≤ length xs → part_at n i (xs ++ ys) ≡ part_at n i xs
part_before n i xs ys room =
    ap (take n) (drop-append-le (n * i) xs ys (omega arith))
    ∙ take-append-le n (drop (n * i) xs) ys (omega (arith, length-drop (n * i) xs))

-- a part of what lies behind the parts before one
part_behind : (n first i : ℕ) (xs : List ℕ) → part_at n i (drop (n * first) xs) ≡ part_at n (first + i) xs
part_behind n first i xs =
    ap (take n) (drop-drop (n * i) (n * first) xs ∙ ap (λ (k : ℕ). drop k xs) (sym (mul-add n first i)))

-- the room for a part that is one of m
pub within : (n i m : ℕ) → i < m → n * i + n ≤ n * m
within n i m below =
    let next : i + 1 ≤ m = omega arith in
    omega (arith, mul-le-mul_left n next)

-- What is written over m parts from one on.
pub record Batch (n first m a k : ℕ) (xs ys : List ℕ) : Type 0 where
  pub place : a ≡ n * first
  pub whole : k ≡ n * m
  pub size : length ys ≡ n * m
  pub room : a + n * m ≤ length xs

-- one of them, as it was
pub part_given : {n first m a k : ℕ} {xs ys : List ℕ} (i : ℕ) → Batch n first m a k xs ys → i < m
    → part_at n i (take k (drop a xs)) ≡ part_at n (first + i) xs
part_given {n = n} {first = first} {m = m} {a = a} {k = k} {xs = xs} i w below =
    let place = w.place in
    let whole = w.whole in
    let room = w.room in
    let behind : List ℕ = drop (n * first) xs in
    let inside : n * i + n ≤ length (take (n * m) behind) =
    omega (arith, within n i m below, length-take (n * m) behind, length-drop (n * first) xs) in
    rw (place, whole)
    (sym (part_before n i (take (n * m) behind) (drop (n * m) behind) inside)
    ∙ ap (part_at n i) (take-append-drop (n * m) behind) ∙ part_behind n first i xs)

-- one of them, as it is written
pub part_taken : {n first m a k : ℕ} {xs ys : List ℕ} (i : ℕ) → Batch n first m a k xs ys → i < m
    → part_at n (first + i) (put_mid a k xs ys) ≡ part_at n i ys
part_taken {n = n} {first = first} {m = m} {a = a} {k = k} {xs = xs} {ys = ys} i w below =
    let place = w.place in
    let room = w.room in
    let size = w.size in
    let rest : List ℕ = ys ++ drop k (drop a xs) in
    let at_place : drop (n * first) (put_mid a k xs ys) ≡ rest =
    rw (← w.place) (drop_at (take a xs) rest a (omega (arith, length-take a xs))) in
    sym (part_behind n first i (put_mid a k xs ys)) ∙ ap (part_at n i) at_place
    ∙ part_before n i ys (drop k (drop a xs)) (omega (arith, within n i m below))

-- another one
pub part_apart : {n first m a k : ℕ} {xs ys : List ℕ} (j : ℕ) → Batch n first m a k xs ys → (j < first) ⊎ (first + m ≤ j)
    → part_at n j (put_mid a k xs ys) ≡ part_at n j xs
part_apart {n = n} {first = first} {a = a} {k = k} {xs = xs} {ys = ys} j w (inl before) =
    let place = w.place in
    let room = w.room in
    sym (drop-take (n * j) n (put_mid a k xs ys))
    ∙ ap (drop (n * j)) (take-put_mid_below a k xs ys (n * j + n) (omega (arith, within n j first before)) (omega arith))
    ∙ drop-take (n * j) n xs
part_apart {n = n} {first = first} {m = m} {a = a} {k = k} {xs = xs} {ys = ys} j w (inr behind) =
    let place = w.place in
    let whole = w.whole in
    let room = w.room in
    let size = w.size in
    ap (take n) (drop-put_mid a k xs ys (n * j) (omega (arith, mul-le-mul_left n behind, mul-add n first m)) (omega arith) (omega arith))

-- the buffer keeps its length
turn_size : {n first m a k : ℕ} {xs ys : List ℕ} → Batch n first m a k xs ys → length (put_mid a k xs ys) ≡ length xs
turn_size {a = a} {k = k} {xs = xs} {ys = ys} w =
    let place = w.place in
    let whole = w.whole in
    let room = w.room in
    let size = w.size in
    let rest : List ℕ = drop k (drop a xs) in
    omega (
      arith,
      length-append (take a xs) (ys ++ rest),
      length-append ys rest,
      length-take a xs,
      length-drop k (drop a xs),
      length-drop a xs,
    )

-- The parts of the next batch are done. S' says of the parts before them what S says.
pub batch_next : {S : ℕ → List ℕ → List ℕ → Type 0} (S' : ℕ → List ℕ → List ℕ → Type 0) {n first m a k : ℕ} {xs xs' ys : List ℕ}
    → Batch n first m a k xs' ys → PartsDone S n first xs xs' → ((j : ℕ) → j < first → (x y : List ℕ) → S j x y → S' j x y)
    → ((i : ℕ) → i < m → S' (first + i) (part_at n i (take k (drop a xs'))) (part_at n i ys)) → PartsDone S' n (first + m) xs (put_mid a k xs' ys)
batch_next S' {n = n} {first = first} {m = m} {a = a} {k = k} {xs = xs} {xs' = xs'} {ys = ys} w h same own = record {
  done = λ j below. elim (cases_lt j first) [
    | inl less ↦ rw (part_apart j w (inl less)) (same j less _ _ (h.done j less))
    | inr from ↦
        let i : ℕ = j - first in
        let inside : i < m = omega arith in
        let here : first + i ≡ j = omega arith in
        subst (λ (l : ℕ). S' l (part_at n l xs) (part_at n l (put_mid a k xs' ys))) here
        (rw (part_taken i w inside) (rw (part_given i w inside, h.left (first + i) (omega arith)) at (own i inside)))
  ];
  left = λ j from. part_apart j w (inr from) ∙ h.left j (omega arith);
  size = turn_size w ∙ h.size;
}

-- the same for one part
pub lane_next : {S : ℕ → List ℕ → List ℕ → Type 0} (S' : ℕ → List ℕ → List ℕ → Type 0) {n i a k : ℕ} {xs xs' ys : List ℕ}
    → Writes n i a k xs' ys → PartsDone S n i xs xs' → ((j : ℕ) → j < i → (x y : List ℕ) → S j x y → S' j x y)
    → S' i (take k (drop a xs')) ys → PartsDone S' n (i + 1) xs (put_mid a k xs' ys)
lane_next S' {n = n} {i = i} {a = a} {k = k} {xs = xs} {xs' = xs'} {ys = ys} w h same own =
    let place = w.place in
    let whole = w.whole in
    let room = w.room in
    let size = w.size in
    let written : Batch n i 1 a k xs' ys = record { place = place; whole = omega arith; size = omega arith; room = omega arith } in
    let rest : List ℕ = drop k (drop a xs') in
    let given : take k (drop a xs') ≡ part_at n i xs = rw (w.whole, w.place) (h.left i (omega arith)) in
    record {
      done = λ j below. elim (cases_lt j i) [
        | inl less ↦ rw (part_kept j w (λ e. absurd (omega (arith, e, less)))) (same j less _ _ (h.done j less))
        | inr from ↦
            let here : j ≡ i = omega arith in
            rw (here, part_written w) (rw given at own)
      ];
      left = λ j from. part_kept j w (λ e. absurd (omega (arith, e, from))) ∙ h.left j (omega arith);
      size = turn_size written ∙ h.size;
    }

-- an element before what is written
pub get_before : (a k j : ℕ) (xs ys : List ℕ) → j < a → a ≤ length xs → get_or (put_mid a k xs ys) j 0 ≡ get_or xs j 0
get_before a k j xs ys below room =
    get_or-append (take a xs) (ys ++ drop k (drop a xs)) 0 j (omega (arith, length-take a xs)) ∙ get_or-take a xs j 0 below

-- an element of what is written
pub get_within : (a k i : ℕ) (xs ys : List ℕ) → i < length ys → a ≤ length xs → get_or (put_mid a k xs ys) (a + i) 0 ≡ get_or ys i 0
get_within a k i xs ys inside room =
    let place : a + i - a ≡ i = omega arith in
    get_or-append_right (take a xs) (ys ++ drop k (drop a xs)) a (a + i) 0 (omega (arith, length-take a xs)) (omega arith)
    ∙ ap (λ (j : ℕ). get_or (ys ++ drop k (drop a xs)) j 0) place ∙ get_or-append ys (drop k (drop a xs)) 0 i inside

-- the buffers of a batch of 48 texts, or of those that are left: as many texts as blocks
pub batch_lanes : (n count batch last : ℕ) (texts blocks : List ℕ) → batch < count / 48 + 1 → last ≡ min count (48 * batch + 48)
    → length texts ≡ n * count → length blocks ≡ 768
    → (length (take (16 * (last - 48 * batch)) blocks) % 16 ≡ 0)
    × (length (take (n * last - n * (48 * batch)) (drop (n * (48 * batch)) texts)) ≡ n * (length (take (16 * (last - 48 * batch)) blocks) / 16))
batch_lanes n count batch last texts blocks more last_is whole room =
    let m : ℕ = last - 48 * batch in
    let some : length (take (16 * m) blocks) ≡ 16 * m = omega (arith, length-take (16 * m) blocks, last_is, room) in
    let lanes : length (take (16 * m) blocks) / 16 ≡ m = omega (arith, some) in
    let first : 48 * batch ≤ last = omega (arith, more, last_is) in
    let last_in : last ≤ count = omega (arith, last_is) in
    let same : 48 * batch + m ≡ last = omega (arith, first) in
    let all : n * last ≡ n * (48 * batch) + n * m = ap (λ (k : ℕ). n * k) (sym same) ∙ mul-add n (48 * batch) m in
    let inside : n * last ≤ n * count = mul-le-mul_left n last_in in
    (omega (arith, some), rw lanes (omega (arith, all, inside, whole, length-take (n * last - n * (48 * batch)) (drop (n * (48 * batch)) texts), length-drop (n * (48 * batch)) texts)))

-- what such a batch writes
pub batch_written : (n count batch last : ℕ) (texts lanes : List ℕ) → batch < count / 48 + 1 → last ≡ min count (48 * batch + 48)
    → length texts ≡ n * count → length lanes ≡ length (take (n * last - n * (48 * batch)) (drop (n * (48 * batch)) texts))
    → Batch n (48 * batch) (last - 48 * batch) (n * (48 * batch)) (n * last - n * (48 * batch)) texts lanes
batch_written n count batch last texts lanes more last_is whole kept =
    let m : ℕ = last - 48 * batch in
    let first : 48 * batch ≤ last = omega (arith, more, last_is) in
    let last_in : last ≤ count = omega (arith, last_is) in
    let same : 48 * batch + m ≡ last = omega (arith, first) in
    let all : n * last ≡ n * (48 * batch) + n * m = ap (λ (k : ℕ). n * k) (sym same) ∙ mul-add n (48 * batch) m in
    let inside : n * last ≤ n * count = mul-le-mul_left n last_in in
    record {
      place = refl;
      whole = omega (arith, all);
      size = omega (arith, all, inside, whole, kept, length-take (n * last - n * (48 * batch)) (drop (n * (48 * batch)) texts), length-drop (n * (48 * batch)) texts);
      room = omega (arith, all, inside, whole);
    }
