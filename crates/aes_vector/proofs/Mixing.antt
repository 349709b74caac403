-- A whole round, lane by lane: ShiftRows and the columns of the matrices are fixed places of lanes.
use Rattle.std.proofs.Common.{◌≡◌, ℕ, List, [], ◌∷◌, map, bit_xor, refl, sym, ap, ap₂, ◌∙◌, w8, Fits, subst}
use Rattle.std.specs.List.{AllByRecursion}
use lib.Lanes.{zip2, Each1}
use Rattle.block_pair.specs.Words.{IsByte, IsBlock}
use Rattle.fips197.specs.State.{entry, state}
use Rattle.fips197.specs.StateLaw.{entry_byte, state-entry}
use Rattle.fips197.specs.Rounds.{shift_rows, sub_bytes, multiplied, add_round_key}
use Rattle.fips197.specs.Cipher.{round}
use Rattle.aes_vector.specs.Tower.{element, key_byte}
use Rattle.aes_vector.specs.Turned.{turned}
use Rattle.aes_vector.proofs.Vectors.{IsVector}
use Rattle.aes_vector.proofs.RoundLanes.{one, two, three, times, lane, turned_sum}

each_byte : (v : List ℕ) → Each1 (Fits w8) v → AllByRecursion IsByte v
each_byte [] h = tt
each_byte (x ∷ v) h = (h.0.fits, each_byte v h.1)

pub vector_block : (v : List ℕ) → IsVector v → IsBlock v
vector_block v h = record { sixteen = h.0; bytes = each_byte v h.1 }

-- four lanes in a row, and the rest
pub column : {a b c d e f g h : ℕ} {xs ys : List ℕ} → a ≡ e → b ≡ f → c ≡ g → d ≡ h → xs ≡ ys
    → a ∷ b ∷ c ∷ d ∷ xs ≡ e ∷ f ∷ g ∷ h ∷ ys
column p q r s t = ap₂ (λ (x : ℕ) (l : List ℕ). x ∷ l) p
    (ap₂ (λ (x : ℕ) (l : List ℕ). x ∷ l) q (ap₂ (λ (x : ℕ) (l : List ℕ). x ∷ l) r (ap₂ (λ (x : ℕ) (l : List ℕ). x ∷ l) s t)))

abbrev pub vector_round : List ℕ → List ℕ → List ℕ
vector_round k s =
    zip2 bit_xor (zip2 bit_xor (zip2 bit_xor (shift_rows (map two s)) k) (turned 1 (shift_rows (map three s))))
    (zip2 bit_xor (turned 2 (shift_rows (map one s))) (turned 3 (shift_rows (map one s))))

-- the lanes of a column, from the four bytes that ShiftRows brings into it
module _ (f : ℕ → ℕ → ℕ) (g : ℕ → ℕ → ℕ) (hf : (r c : ℕ) → IsByte (f r c)) (hg : (r c : ℕ) → IsByte (g r c)) where
  column_lanes : (c0 c1 c2 c3 : ℕ) {xs ys : List ℕ} → xs ≡ ys →
      element (bit_xor (bit_xor (bit_xor (two (f 0 c0)) (g 0 c0)) (three (f 1 c1))) (bit_xor (one (f 2 c2)) (one (f 3 c3))))
      ∷ element (bit_xor (bit_xor (bit_xor (two (f 1 c1)) (g 1 c0)) (three (f 2 c2))) (bit_xor (one (f 3 c3)) (one (f 0 c0))))
      ∷ element (bit_xor (bit_xor (bit_xor (two (f 2 c2)) (g 2 c0)) (three (f 3 c3))) (bit_xor (one (f 0 c0)) (one (f 1 c1))))
      ∷ element (bit_xor (bit_xor (bit_xor (two (f 3 c3)) (g 3 c0)) (three (f 0 c0))) (bit_xor (one (f 1 c1)) (one (f 2 c2))))
      ∷ xs
      ≡ bit_xor (bit_xor (bit_xor (bit_xor (times 2 (f 0 c0)) (times 3 (f 1 c1))) (times 1 (f 2 c2))) (times 1 (f 3 c3))) (key_byte (g 0 c0))
      ∷ bit_xor (bit_xor (bit_xor (bit_xor (times 1 (f 0 c0)) (times 2 (f 1 c1))) (times 3 (f 2 c2))) (times 1 (f 3 c3))) (key_byte (g 1 c0))
      ∷ bit_xor (bit_xor (bit_xor (bit_xor (times 1 (f 0 c0)) (times 1 (f 1 c1))) (times 2 (f 2 c2))) (times 3 (f 3 c3))) (key_byte (g 2 c0))
      ∷ bit_xor (bit_xor (bit_xor (bit_xor (times 3 (f 0 c0)) (times 1 (f 1 c1))) (times 1 (f 2 c2))) (times 2 (f 3 c3))) (key_byte (g 3 c0))
      ∷ ys
  column_lanes c0 c1 c2 c3 rest =
      let a = f 0 c0 in
      let b = f 1 c1 in
      let c = f 2 c2 in
      let d = f 3 c3 in
      let ha = hf 0 c0 in
      let hb = hf 1 c1 in
      let hc = hf 2 c2 in
      let hd = hf 3 c3 in
      column
      (lane a b c d (g 0 c0) ha hb hc hd (hg 0 c0))
      (lane b c d a (g 1 c0) hb hc hd ha (hg 1 c0)
      ∙ ap (λ (x : ℕ). bit_xor x (key_byte (g 1 c0))) (turned_sum (times 1 a) (times 2 b) (times 3 c) (times 1 d)))
      (lane c d a b (g 2 c0) hc hd ha hb (hg 2 c0)
      ∙ ap (λ (x : ℕ). bit_xor x (key_byte (g 2 c0)))
      (turned_sum (times 1 b) (times 2 c) (times 3 d) (times 1 a) ∙ turned_sum (times 1 a) (times 1 b) (times 2 c) (times 3 d)))
      (lane d a b c (g 3 c0) hd ha hb hc (hg 3 c0)
      ∙ ap (λ (x : ℕ). bit_xor x (key_byte (g 3 c0))) (sym (turned_sum (times 2 d) (times 3 a) (times 1 b) (times 1 c))))
      rest

  round_states : map element (vector_round (state g) (state f)) ≡ round (map key_byte (state g)) (map element (state f))
  unfolding shift_rows turned sub_bytes multiplied add_round_key
  round_states = column_lanes 0 1 2 3 (column_lanes 1 2 3 0 (column_lanes 2 3 0 1 (column_lanes 3 0 1 2 refl)))

pub round_lanes : (k s : List ℕ) → IsVector k → IsVector s → map element (vector_round k s) ≡ round (map key_byte k) (map element s)
round_lanes k s hk hs =
    let bk = vector_block k hk in
    let bs = vector_block s hs in
    let P : List ℕ → List ℕ → Type 0 = λ k s. map element (vector_round k s) ≡ round (map key_byte k) (map element s) in
    subst (λ (s : List ℕ). P k s) (state-entry s bs)
    (subst (λ (k : List ℕ). P k (state (entry s))) (state-entry k bk)
    (round_states (entry s) (entry k) (entry_byte s bs) (entry_byte k bk)))

-- the parts of a round, put together
pub round_of : (k s v1 v2 v3 : List ℕ) {p0 p1 p2 p3 : List ℕ} → IsVector k → IsVector s
    → v1 ≡ map one s → v2 ≡ map two s → v3 ≡ map three s
    → p0 ≡ shift_rows v2 → p1 ≡ turned 1 (shift_rows v3) → p2 ≡ turned 2 (shift_rows v1) → p3 ≡ turned 3 (shift_rows v1)
    → map element (zip2 bit_xor (zip2 bit_xor (zip2 bit_xor p0 k) p1) (zip2 bit_xor p2 p3)) ≡ round (map key_byte k) (map element s)
round_of k s v1 v2 v3 hk hs e1 e2 e3 r0 r1 r2 r3 =
    ap (map element)
    (ap₂ (zip2 bit_xor)
    (ap₂ (zip2 bit_xor) (ap (λ (v : List ℕ). zip2 bit_xor v k) (r0 ∙ ap shift_rows e2)) (r1 ∙ ap (λ (v : List ℕ). turned 1 (shift_rows v)) e3))
    (ap₂ (zip2 bit_xor) (r2 ∙ ap (λ (v : List ℕ). turned 2 (shift_rows v)) e1) (r3 ∙ ap (λ (v : List ℕ). turned 3 (shift_rows v)) e1)))
    ∙ round_lanes k s hk hs
