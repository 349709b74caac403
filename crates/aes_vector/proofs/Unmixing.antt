-- A whole round of the inverse cipher, and the last rounds, lane by lane.
use Rattle.std.proofs.Common.{◌≡◌, ℕ, List, ◌∷◌, map, bit_xor, refl, sym, ap, ap₂, ◌∙◌, subst}
use Rattle.std.specs.Int.Bits.{xor_assoc}
use Rattle.std.proofs.lemmas.Nat.{xor_comm}
use lib.Lanes.{zip2}
use Rattle.block_pair.specs.Words.{IsByte}
use Rattle.fips197.specs.State.{entry, state}
use Rattle.fips197.specs.StateLaw.{entry_byte, state-entry}
use Rattle.fips197.specs.Rounds.{shift_rows, inv_shift_rows, sub_bytes, inv_sub_bytes, multiplied, inv_mix_columns, add_round_key}
use Rattle.fips197.specs.Cipher.{last_round}
use Rattle.fips197.specs.SBox.{s_box, inv_s_box}
use Rattle.aes_vector.specs.declared.tables.TheConstants.{S_I, S_J, INV_S_I, INV_S_J}
use Rattle.aes_vector.specs.Tables.{found}
use Rattle.aes_vector.specs.Tower.{element, last_key_byte, affine_element}
use Rattle.aes_vector.specs.Turned.{turned}
use Rattle.aes_vector.proofs.Vectors.{IsVector}
use Rattle.aes_vector.proofs.Computed.{s_box_finds, inverse_finds, inv_s_box_element}
use Rattle.aes_vector.proofs.RoundLanes.{nine, eleven, thirteen, fourteen, inv_times, inv_lane, turned_sum}
use Rattle.aes_vector.proofs.Mixing.{vector_block, column}

abbrev pub inv_vector_round : List ℕ → List ℕ → List ℕ
inv_vector_round k s =
    zip2 bit_xor (zip2 bit_xor (zip2 bit_xor (inv_shift_rows (map fourteen s)) k) (turned 1 (inv_shift_rows (map eleven s))))
    (zip2 bit_xor (turned 2 (inv_shift_rows (map thirteen s))) (turned 3 (inv_shift_rows (map nine s))))

module _ (f : ℕ → ℕ → ℕ) (g : ℕ → ℕ → ℕ) (hf : (r c : ℕ) → IsByte (f r c)) (hg : (r c : ℕ) → IsByte (g r c)) where
  inv_column_lanes : (c0 c1 c2 c3 : ℕ) {xs ys : List ℕ} → xs ≡ ys →
      affine_element (bit_xor (bit_xor (bit_xor (fourteen (f 0 c0)) (g 0 c0)) (eleven (f 1 c1))) (bit_xor (thirteen (f 2 c2)) (nine (f 3 c3))))
      ∷ affine_element (bit_xor (bit_xor (bit_xor (fourteen (f 1 c1)) (g 1 c0)) (eleven (f 2 c2))) (bit_xor (thirteen (f 3 c3)) (nine (f 0 c0))))
      ∷ affine_element (bit_xor (bit_xor (bit_xor (fourteen (f 2 c2)) (g 2 c0)) (eleven (f 3 c3))) (bit_xor (thirteen (f 0 c0)) (nine (f 1 c1))))
      ∷ affine_element (bit_xor (bit_xor (bit_xor (fourteen (f 3 c3)) (g 3 c0)) (eleven (f 0 c0))) (bit_xor (thirteen (f 1 c1)) (nine (f 2 c2))))
      ∷ xs
      ≡ bit_xor (bit_xor (bit_xor (bit_xor (inv_times 14 (f 0 c0)) (inv_times 11 (f 1 c1))) (inv_times 13 (f 2 c2))) (inv_times 9 (f 3 c3)))
      (affine_element (g 0 c0))
      ∷ bit_xor (bit_xor (bit_xor (bit_xor (inv_times 9 (f 0 c0)) (inv_times 14 (f 1 c1))) (inv_times 11 (f 2 c2))) (inv_times 13 (f 3 c3)))
      (affine_element (g 1 c0))
      ∷ bit_xor (bit_xor (bit_xor (bit_xor (inv_times 13 (f 0 c0)) (inv_times 9 (f 1 c1))) (inv_times 14 (f 2 c2))) (inv_times 11 (f 3 c3)))
      (affine_element (g 2 c0))
      ∷ bit_xor (bit_xor (bit_xor (bit_xor (inv_times 11 (f 0 c0)) (inv_times 13 (f 1 c1))) (inv_times 9 (f 2 c2))) (inv_times 14 (f 3 c3)))
      (affine_element (g 3 c0))
      ∷ ys
  inv_column_lanes c0 c1 c2 c3 rest =
      let a = f 0 c0 in
      let b = f 1 c1 in
      let c = f 2 c2 in
      let d = f 3 c3 in
      let ha = hf 0 c0 in
      let hb = hf 1 c1 in
      let hc = hf 2 c2 in
      let hd = hf 3 c3 in
      column
      (inv_lane a b c d (g 0 c0) ha hb hc hd (hg 0 c0))
      (inv_lane b c d a (g 1 c0) hb hc hd ha (hg 1 c0)
      ∙ ap (λ (x : ℕ). bit_xor x (affine_element (g 1 c0))) (turned_sum (inv_times 9 a) (inv_times 14 b) (inv_times 11 c) (inv_times 13 d)))
      (inv_lane c d a b (g 2 c0) hc hd ha hb (hg 2 c0)
      ∙ ap (λ (x : ℕ). bit_xor x (affine_element (g 2 c0)))
      (turned_sum (inv_times 9 b) (inv_times 14 c) (inv_times 11 d) (inv_times 13 a) ∙ turned_sum (inv_times 13 a) (inv_times 9 b) (inv_times 14 c)
      (inv_times 11 d)))
      (inv_lane d a b c (g 3 c0) hd ha hb hc (hg 3 c0)
      ∙ ap (λ (x : ℕ). bit_xor x (affine_element (g 3 c0))) (sym (turned_sum (inv_times 14 d) (inv_times 11 a) (inv_times 13 b) (inv_times 9 c))))
      rest

  inv_round_states : map affine_element (inv_vector_round (state g) (state f))
      ≡ add_round_key (map affine_element (state g)) (inv_mix_columns (inv_sub_bytes (inv_shift_rows (map affine_element (state f)))))
  unfolding inv_shift_rows turned inv_sub_bytes multiplied add_round_key
  inv_round_states = inv_column_lanes 0 3 2 1 (inv_column_lanes 1 0 3 2 (inv_column_lanes 2 1 0 3 (inv_column_lanes 3 2 1 0 refl)))

  last_lane : (r c d : ℕ) → bit_xor (found S_I S_J (f r c)) (g r d) ≡ bit_xor (s_box (element (f r c))) (last_key_byte (g r d))
  unfolding last_key_byte
  last_lane r c d =
      ap (λ (x : ℕ). bit_xor x (g r d)) (s_box_finds (f r c) (hf r c))
      ∙ xor_assoc (s_box (element (f r c))) 0x63 (g r d)
      ∙ ap (bit_xor (s_box (element (f r c)))) (xor_comm 0x63 (g r d))

  last_states : zip2 bit_xor (shift_rows (map (found S_I S_J) (state f))) (state g) ≡ last_round (map last_key_byte (state g)) (map element (state f))
  unfolding shift_rows sub_bytes add_round_key
  last_states =
      column (last_lane 0 0 0) (last_lane 1 1 0) (last_lane 2 2 0) (last_lane 3 3 0)
      (column (last_lane 0 1 1) (last_lane 1 2 1) (last_lane 2 3 1) (last_lane 3 0 1)
      (column (last_lane 0 2 2) (last_lane 1 3 2) (last_lane 2 0 2) (last_lane 3 1 2)
      (column (last_lane 0 3 3) (last_lane 1 0 3) (last_lane 2 1 3) (last_lane 3 2 3) refl)))

  inv_last_lane : (r c d : ℕ) → bit_xor (found INV_S_I INV_S_J (f r c)) (g r d) ≡ bit_xor (inv_s_box (affine_element (f r c))) (g r d)
  inv_last_lane r c d = ap (λ (x : ℕ). bit_xor x (g r d)) (inverse_finds (f r c) (hf r c) ∙ sym (inv_s_box_element (f r c) (hf r c)))

  inv_last_states : zip2 bit_xor (inv_shift_rows (map (found INV_S_I INV_S_J) (state f))) (state g)
      ≡ add_round_key (state g) (inv_sub_bytes (inv_shift_rows (map affine_element (state f))))
  unfolding inv_shift_rows inv_sub_bytes add_round_key
  inv_last_states =
      column (inv_last_lane 0 0 0) (inv_last_lane 1 3 0) (inv_last_lane 2 2 0) (inv_last_lane 3 1 0)
      (column (inv_last_lane 0 1 1) (inv_last_lane 1 0 1) (inv_last_lane 2 3 1) (inv_last_lane 3 2 1)
      (column (inv_last_lane 0 2 2) (inv_last_lane 1 1 2) (inv_last_lane 2 0 2) (inv_last_lane 3 3 2)
      (column (inv_last_lane 0 3 3) (inv_last_lane 1 2 3) (inv_last_lane 2 1 3) (inv_last_lane 3 0 3) refl)))

-- from states to blocks
pub by_states : (P : List ℕ → List ℕ → Type 0) (k s : List ℕ) → IsVector k → IsVector s
    → ((f g : ℕ → ℕ → ℕ) → ((r c : ℕ) → IsByte (f r c)) → ((r c : ℕ) → IsByte (g r c)) → P (state g) (state f)) → P k s
by_states P k s hk hs h =
    let bk = vector_block k hk in
    let bs = vector_block s hs in
    subst (λ (s : List ℕ). P k s) (state-entry s bs)
    (subst (λ (k : List ℕ). P k (state (entry s))) (state-entry k bk)
    (h (entry s) (entry k) (entry_byte s bs) (entry_byte k bk)))

pub inv_round_of : (k s v0 v1 v2 v3 : List ℕ) {p0 p1 p2 p3 : List ℕ} → IsVector k → IsVector s
    → v0 ≡ map fourteen s → v1 ≡ map eleven s → v2 ≡ map thirteen s → v3 ≡ map nine s
    → p0 ≡ inv_shift_rows v0 → p1 ≡ turned 1 (inv_shift_rows v1) → p2 ≡ turned 2 (inv_shift_rows v2) → p3 ≡ turned 3 (inv_shift_rows v3)
    → map affine_element (zip2 bit_xor (zip2 bit_xor (zip2 bit_xor p0 k) p1) (zip2 bit_xor p2 p3))
    ≡ add_round_key (map affine_element k) (inv_mix_columns (inv_sub_bytes (inv_shift_rows (map affine_element s))))
inv_round_of k s v0 v1 v2 v3 hk hs e0 e1 e2 e3 r0 r1 r2 r3 =
    ap (map affine_element)
    (ap₂ (zip2 bit_xor)
    (ap₂ (zip2 bit_xor) (ap (λ (v : List ℕ). zip2 bit_xor v k) (r0 ∙ ap inv_shift_rows e0)) (r1 ∙ ap (λ (v : List ℕ). turned 1 (inv_shift_rows v)) e1))
    (ap₂ (zip2 bit_xor) (r2 ∙ ap (λ (v : List ℕ). turned 2 (inv_shift_rows v)) e2) (r3 ∙ ap (λ (v : List ℕ). turned 3 (inv_shift_rows v)) e3)))
    ∙ by_states
    (λ k s. map affine_element (inv_vector_round k s) ≡ add_round_key (map affine_element k)
    (inv_mix_columns (inv_sub_bytes (inv_shift_rows (map affine_element s)))))
    k s hk hs inv_round_states

pub last_round_of : (k s v : List ℕ) {p : List ℕ} → IsVector k → IsVector s → v ≡ map (found S_I S_J) s → p ≡ shift_rows v
    → zip2 bit_xor p k ≡ last_round (map last_key_byte k) (map element s)
last_round_of k s v hk hs e r =
    ap (λ (v : List ℕ). zip2 bit_xor v k) (r ∙ ap shift_rows e)
    ∙ by_states (λ k s. zip2 bit_xor (shift_rows (map (found S_I S_J) s)) k ≡ last_round (map last_key_byte k) (map element s)) k s hk hs last_states

pub inv_last_round_of : (k s v : List ℕ) {p : List ℕ} → IsVector k → IsVector s → v ≡ map (found INV_S_I INV_S_J) s → p ≡ inv_shift_rows v
    → zip2 bit_xor p k ≡ add_round_key k (inv_sub_bytes (inv_shift_rows (map affine_element s)))
inv_last_round_of k s v hk hs e r =
    ap (λ (v : List ℕ). zip2 bit_xor v k) (r ∙ ap inv_shift_rows e)
    ∙ by_states (λ k s. zip2 bit_xor (inv_shift_rows (map (found INV_S_I INV_S_J) s)) k ≡ add_round_key k
    (inv_sub_bytes (inv_shift_rows (map affine_element s)))) k s hk hs inv_last_states
