-- The vector operations on 16 bytes, lane by lane.
use Rattle.std.proofs.Common.{◌≡◌, ℕ, suc, ◌+◌, ◌*◌, ◌/◌, ◌≤◌, ◌||◌, Bool, true, false, T, cond, ltb, leb, List, [], ◌∷◌, map, length}
use Rattle.std.proofs.Common.{get_or, refl, sym, ap, ap₂, ◌∙◌, arith, w8, Fits, bit_xor, slice_index, leb-true}
use Rattle.std.proofs.lemmas.List.{get_or_past}
use Rattle.std.proofs.lemmas.Simd.{swz_l, SwzOk, SwzOk-from_Each1, Each1-weaker, map-map, zip2_of_maps}
use lib.Lanes.{zip2, Each1}
use Rattle.fips197.specs.EveryByte.{passes_below, passes_at}
use Rattle.aes_vector.specs.Tables.{is_place, IsPlace, place_i, place_j, found}

-- 16 lanes, each a byte
abbrev pub IsVector : List ℕ → Type 0
IsVector v = (length v ≡ 16) × Each1 (Fits w8) v

is_T : (b : Bool) → b ≡ true → T b
is_T true e = tt
is_T false e = cc

-- what a shuffle by places asks
pub shuffle_ok : (js : List ℕ) → length js ≡ 16 → Each1 IsPlace js → SwzOk w8 16 16 0 js
shuffle_ok js long places =
    SwzOk-from_Each1 w8 16 1 16 0 js refl (omega arith)
    (Each1-weaker IsPlace (λ j. T (leb 128 j || ltb j 16)) (λ j p. is_T (leb 128 j || ltb j 16) p) js places)

-- a place from 128 on is past the table
at_place : (t : List ℕ) (j : ℕ) (b : Bool) → length t ≡ 16 → leb 128 j ≡ b → cond b 0 (get_or t j 0) ≡ get_or t j 0
at_place t j true long e = let past = leb-true 128 j e in sym (get_or_past t j 0 (omega arith))
at_place t j false long e = refl

shuffled_from : (t : List ℕ) (i : ℕ) (js : List ℕ) → length t ≡ 16 → i + length js ≤ 16 → swz_l w8 16 t i js ≡ map (slice_index t) js
shuffled_from t i [] long room = refl
shuffled_from t i (j ∷ js) long room =
    let block : 16 * (i / 16) + j ≡ j = omega arith in
    ap₂ (λ (x : ℕ) (xs : List ℕ). x ∷ xs)
    (ap (λ (k : ℕ). cond (leb 128 j) 0 (get_or t k 0)) block ∙ at_place t j (leb 128 j) long refl)
    (shuffled_from t (suc i) js long (omega arith))

-- a shuffle by places looks each up in the table
pub shuffled : (t js : List ℕ) → length t ≡ 16 → length js ≡ 16 → swz_l w8 16 t 0 js ≡ map (slice_index t) js
shuffled t js long room = shuffled_from t 0 js long (omega arith)

-- what is computed at every byte holds of each lane
pub each_place : (f : ℕ → ℕ) (v vs : List ℕ) → passes_below 256 (λ x. is_place (f x)) ≡ true → Each1 (Fits w8) v → vs ≡ map f v → Each1 IsPlace vs
each_place f v vs passed fits e = rw e (go v fits)
  where
    go : (v : List ℕ) → Each1 (Fits w8) v → Each1 IsPlace (map f v)
    go [] h = tt
    go (x ∷ xs) h = (passes_at 256 (λ x. is_place (f x)) x h.0.fits passed, go xs h.1)

-- a look-up at places that are themselves computed from vs
pub looks : (t : List ℕ) (f : ℕ → ℕ) (vs : List ℕ) {js ys : List ℕ} → ys ≡ map (slice_index t) js → js ≡ map f vs → ys ≡ map (λ x. slice_index t (f x)) vs
looks t f vs e h = e ∙ ap (map (slice_index t)) h ∙ map-map (slice_index t) f vs

-- what two tables give at the places of the inverses of vs
pub finds : (by_i by_j vs : List ℕ) {i j ys : List ℕ} → i ≡ map place_i vs → j ≡ map place_j vs
    → ys ≡ zip2 bit_xor (map (slice_index by_i) i) (map (slice_index by_j) j) → ys ≡ map (found by_i by_j) vs
unfolding found
finds by_i by_j vs ei ej e =
    e ∙ zip2_of_maps bit_xor (λ x. slice_index by_i (place_i x)) (λ x. slice_index by_j (place_j x)) vs
    (ap (map (slice_index by_i)) ei ∙ map-map (slice_index by_i) place_i vs)
    (ap (map (slice_index by_j)) ej ∙ map-map (slice_index by_j) place_j vs)
