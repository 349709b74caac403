-- Parts of n bytes, each behind the one before it in a buffer. One is written, and the others stay as they are.
use Rattle.std.proofs.Common.{◌≡◌, ℕ, ◌+◌, ◌*◌, ◌≤◌, ◌<◌, List, ◌++◌, length, take, drop, sym, ap, ◌∙◌, arith, inl, inr}
use Rattle.std.proofs.Common.{length-drop, length-take}
use Rattle.std.proofs.lemmas.Bool.{cases_lt}
use Rattle.std.proofs.lemmas.List.{drop_at, take_at, drop-take}
use Rattle.std.proofs.lemmas.Slice.{take-put_mid_below, drop-put_mid}
use Rattle.std.proofs.Math.Nat.{mul-le-mul_left}
use borrow.Rule.Slice.PartMut.{put_mid}

-- the part at a place, counted from 0
abbrev pub part_at : (n i : ℕ) → List ℕ → List ℕ
part_at n i xs = take n (drop (n * i) xs)

-- what is written, at the place of a part
pub record Writes (n i a k : ℕ) (xs ys : List ℕ) : Type 0 where
  pub place : a ≡ n * i
  pub whole : k ≡ n
  pub size : length ys ≡ n
  pub room : a + n ≤ length xs

pub part_written : {n i a k : ℕ} {xs ys : List ℕ} → Writes n i a k xs ys → part_at n i (put_mid a k xs ys) ≡ ys
part_written {n = n} {i = i} {a = a} {k = k} {xs = xs} {ys = ys} w =
    let room = w.room in
    rw (← w.place) (ap (take n) (drop_at (take a xs) (ys ++ drop k (drop a xs)) a (omega (arith, length-take a xs))) ∙ take_at ys (drop k (drop a xs)) n w.size)

pub part_kept : {n i a k : ℕ} {xs ys : List ℕ} (j : ℕ) → Writes n i a k xs ys → ¬ (j ≡ i) → part_at n j (put_mid a k xs ys) ≡ part_at n j xs
part_kept {n = n} {i = i} {a = a} {k = k} {xs = xs} {ys = ys} j w other =
    let place = w.place in
    let room = w.room in
    let whole = w.whole in
    let size = w.size in
    elim (cases_lt j i) [
      | inl before ↦
          let zs : List ℕ = put_mid a k xs ys in
          let next : j + 1 ≤ i = omega arith in
          let below : n * j + n ≤ a = omega (arith, mul-le-mul_left n next) in
          sym (drop-take (n * j) n zs) ∙ ap (drop (n * j)) (take-put_mid_below a k xs ys (n * j + n) below (omega arith)) ∙ drop-take (n * j) n xs
      | inr from ↦
          let after : i + 1 ≤ j = omega arith in
          let above : a + k ≤ n * j = omega (arith, mul-le-mul_left n after) in
          ap (take n) (drop-put_mid a k xs ys (n * j) above (omega arith) (omega arith))
    ]

-- there is room for each part
pub part_room : (n i count len : ℕ) → i < count → len ≡ n * count → n * i + n ≤ len
part_room n i count len below all =
    let next : i + 1 ≤ count = omega arith in
    omega (arith, mul-le-mul_left n next)

pub part_length : (n a k : ℕ) (xs : List ℕ) → k ≡ n → a + n ≤ length xs → length (take k (drop a xs)) ≡ n
part_length n a k xs whole room = omega (arith, length-take k (drop a xs), length-drop a xs)
