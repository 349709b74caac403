-- The first states: a block in either basis, with its round key.
use Rattle.std.proofs.Common.{◌≡◌, ℕ, true, List, map, bit_xor, refl, ap, ◌∙◌}
use Rattle.std.specs.Int.Bits.{xor_assoc}
use Rattle.std.proofs.lemmas.Nat.{xor_comm}
use lib.Lanes.{zip2}
use Rattle.block_pair.specs.Words.{IsByte}
use Rattle.fips197.specs.Field.{product, polynomial_product, remainder}
use Rattle.fips197.specs.State.{state}
use Rattle.fips197.specs.Rounds.{add_round_key}
use Rattle.aes_vector.specs.declared.tables.TheConstants.{MASKED_TOWER_LOW, TOWER_HIGH, INV_LOW, INV_HIGH}
use Rattle.aes_vector.specs.Tables.{linear}
use Rattle.aes_vector.specs.Tower.{element, key_byte, affine_element}
use Rattle.aes_vector.proofs.EveryByte.{same_test, agree, at_byte, below_test, gives_bytes, byte_of}
use Rattle.aes_vector.proofs.Computed.{masked_enters, inv_enters}
use Rattle.aes_vector.proofs.XorMaps.{element-xor, affine_element-xor}
use Rattle.aes_vector.proofs.Vectors.{IsVector}
use Rattle.aes_vector.proofs.Mixing.{column}
use Rattle.aes_vector.proofs.Unmixing.{by_states}

-- into the tower, with the constant of the S-box
abbrev pub masked : ℕ → ℕ
masked x = linear MASKED_TOWER_LOW TOWER_HIGH x

abbrev pub inv_based : ℕ → ℕ
inv_based x = linear INV_LOW INV_HIGH x

masked_bytes : gives_bytes masked ≡ true
unfolding below_test
masked_bytes = refl

inv_based_bytes : gives_bytes inv_based ≡ true
unfolding below_test
inv_based_bytes = refl

product_one : agree (product 1) (λ x. x) ≡ true
unfolding same_test product remainder polynomial_product
product_one = refl

module _ (f : ℕ → ℕ → ℕ) (g : ℕ → ℕ → ℕ) (hf : (r c : ℕ) → IsByte (f r c)) (hg : (r c : ℕ) → IsByte (g r c)) where
  first_lane : (r c : ℕ) → element (bit_xor (masked (f r c)) (g r c)) ≡ bit_xor (f r c) (key_byte (g r c))
  unfolding key_byte
  first_lane r c =
      element-xor (masked (f r c)) (g r c) (byte_of masked (f r c) masked_bytes (hf r c)) (hg r c)
      ∙ ap (λ (x : ℕ). bit_xor x (element (g r c))) (masked_enters (f r c) (hf r c))
      ∙ xor_assoc (f r c) 0x63 (element (g r c))
      ∙ ap (bit_xor (f r c)) (xor_comm 0x63 (element (g r c)))

  first_states : map element (zip2 bit_xor (map masked (state f)) (state g)) ≡ add_round_key (map key_byte (state g)) (state f)
  unfolding add_round_key
  first_states =
      column (first_lane 0 0) (first_lane 1 0) (first_lane 2 0) (first_lane 3 0)
      (column (first_lane 0 1) (first_lane 1 1) (first_lane 2 1) (first_lane 3 1)
      (column (first_lane 0 2) (first_lane 1 2) (first_lane 2 2) (first_lane 3 2)
      (column (first_lane 0 3) (first_lane 1 3) (first_lane 2 3) (first_lane 3 3) refl)))

  inv_first_lane : (r c : ℕ) → affine_element (bit_xor (inv_based (f r c)) (g r c)) ≡ bit_xor (f r c) (affine_element (g r c))
  inv_first_lane r c =
      ap affine_element (xor_comm (inv_based (f r c)) (g r c))
      ∙ affine_element-xor (g r c) (inv_based (f r c)) (hg r c) (byte_of inv_based (f r c) inv_based_bytes (hf r c))
      ∙ ap (bit_xor (affine_element (g r c))) (inv_enters (f r c) (hf r c) ∙ at_byte _ _ (f r c) product_one (hf r c))
      ∙ xor_comm (affine_element (g r c)) (f r c)

  inv_first_states : map affine_element (zip2 bit_xor (map inv_based (state f)) (state g)) ≡ add_round_key (map affine_element (state g)) (state f)
  unfolding add_round_key
  inv_first_states =
      column (inv_first_lane 0 0) (inv_first_lane 1 0) (inv_first_lane 2 0) (inv_first_lane 3 0)
      (column (inv_first_lane 0 1) (inv_first_lane 1 1) (inv_first_lane 2 1) (inv_first_lane 3 1)
      (column (inv_first_lane 0 2) (inv_first_lane 1 2) (inv_first_lane 2 2) (inv_first_lane 3 2)
      (column (inv_first_lane 0 3) (inv_first_lane 1 3) (inv_first_lane 2 3) (inv_first_lane 3 3) refl)))

pub first_state_of : (k b : List ℕ) {v : List ℕ} → IsVector k → IsVector b → v ≡ map masked b
    → map element (zip2 bit_xor v k) ≡ add_round_key (map key_byte k) b
first_state_of k b hk hb e =
    ap (λ (v : List ℕ). map element (zip2 bit_xor v k)) e
    ∙ by_states (λ k b. map element (zip2 bit_xor (map masked b) k) ≡ add_round_key (map key_byte k) b) k b hk hb first_states

pub inv_first_state_of : (k b : List ℕ) {v : List ℕ} → IsVector k → IsVector b → v ≡ map inv_based b
    → map affine_element (zip2 bit_xor v k) ≡ add_round_key (map affine_element k) b
inv_first_state_of k b hk hb e =
    ap (λ (v : List ℕ). map affine_element (zip2 bit_xor v k)) e
    ∙ by_states (λ k b. map affine_element (zip2 bit_xor (map inv_based b) k) ≡ add_round_key (map affine_element k) b) k b hk hb inv_first_states
