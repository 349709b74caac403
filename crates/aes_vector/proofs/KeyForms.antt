-- The round keys in the form in which each round takes them, and the S-box of the schedule.
use Rattle.std.proofs.Common.{◌≡◌, ℕ, true, List, ◌∷◌, map, bit_xor, refl, sym, ap, ap₂, ◌∙◌, subst, replicate}
use Rattle.std.specs.Int.Bits.{xor_assoc, xor_zero_r}
use Rattle.std.proofs.lemmas.Simd.{zip2_splat, map-map}
use Rattle.std.proofs.lemmas.List.{length-map}
use lib.Lanes.{zip2}
use Rattle.std.proofs.lemmas.Nat.{xor_lt}
use Rattle.block_pair.specs.Words.{IsByte}
use Rattle.fips197.specs.Xor.{xor_twice}
use Rattle.fips197.specs.Field.{product, polynomial_product, remainder}
use Rattle.fips197.specs.SBox.{s_box}
use Rattle.fips197.specs.State.{entry, state}
use Rattle.fips197.specs.StateLaw.{entry_byte, state-entry}
use Rattle.fips197.specs.Rounds.{multiplied, inv_mix_columns}
use Rattle.aes_vector.specs.declared.tables.TheConstants.{MASKED_TOWER_LOW, TOWER_LOW, TOWER_HIGH, MASKED_INV_LOW, INV_HIGH, S_I, S_J}
use Rattle.aes_vector.specs.declared.tables.TheConstants.{MASKED_INV_FOURTEEN_LOW, INV_FOURTEEN_HIGH, INV_ELEVEN_LOW, INV_ELEVEN_HIGH, INV_THIRTEEN_LOW}
use Rattle.aes_vector.specs.declared.tables.TheConstants.{INV_THIRTEEN_HIGH, INV_NINE_LOW, INV_NINE_HIGH}
use Rattle.aes_vector.specs.Tables.{linear, found}
use Rattle.aes_vector.specs.Tower.{element, key_byte, last_key_byte, affine_element}
use Rattle.aes_vector.specs.Turned.{turned}
use Rattle.aes_vector.proofs.Vectors.{IsVector}
use Rattle.aes_vector.proofs.EveryByte.{same_test, agree, at_byte, below_test, gives_bytes, byte_of, same_map, map_same}
use Rattle.aes_vector.proofs.Computed.{masked_enters, tower_enters, masked_inv_enters, fourteen_enters, eleven_enters, thirteen_enters, nine_enters}
use Rattle.aes_vector.proofs.Computed.{s_box_finds}
use Rattle.aes_vector.proofs.XorMaps.{linear_element-xor, affine_element-xor}
use Rattle.aes_vector.proofs.RoundLanes.{turned_sum}
use Rattle.aes_vector.proofs.Mixing.{column, vector_block}

-- the linear maps of a round key
abbrev pub masked : ℕ → ℕ
masked x = linear MASKED_TOWER_LOW TOWER_HIGH x

abbrev pub inv_masked : ℕ → ℕ
inv_masked x = linear MASKED_INV_LOW INV_HIGH x

product_one : agree (product 1) (λ x. x) ≡ true
unfolding same_test product remainder polynomial_product
product_one = refl

pub enc_form : (key : List ℕ) {v : List ℕ} → IsVector key → v ≡ map masked key → map key_byte v ≡ key
unfolding key_byte
enc_form key h e =
    ap (map key_byte) e ∙ map-map key_byte masked key
    ∙ map_same (λ x. key_byte (masked x)) key h.1 (λ x b. ap (λ (y : ℕ). bit_xor y 0x63) (masked_enters x b) ∙ xor_twice x 0x63)

pub first_dec_form : (key : List ℕ) {v : List ℕ} → IsVector key → v ≡ map inv_masked key → map affine_element v ≡ key
first_dec_form key h e =
    ap (map affine_element) e ∙ map-map affine_element inv_masked key
    ∙ map_same (λ x. affine_element (inv_masked x)) key h.1 (λ x b. masked_inv_enters x b ∙ at_byte _ _ x product_one b)

pub last_enc_form : (key : List ℕ) → IsVector key → map last_key_byte (zip2 bit_xor key (replicate 16 0x63)) ≡ key
unfolding last_key_byte
last_enc_form key h =
    ap (map last_key_byte) (zip2_splat bit_xor key 16 0x63 h.0)
    ∙ map-map last_key_byte (λ x. bit_xor x 0x63) key
    ∙ map_same (λ x. bit_xor (bit_xor x 0x63) 0x63) key h.1 (λ x b. xor_twice x 0x63)

-- the S-box on each lane of a vector
abbrev pub tower : ℕ → ℕ
tower x = linear TOWER_LOW TOWER_HIGH x

tower_bytes : gives_bytes tower ≡ true
unfolding below_test
tower_bytes = refl

s_box_lane : (x : ℕ) → IsByte x → bit_xor (found S_I S_J (tower x)) 0x63 ≡ s_box x
s_box_lane x h =
    ap (λ (y : ℕ). bit_xor y 0x63) (s_box_finds (tower x) (byte_of tower x tower_bytes h))
    ∙ xor_twice (s_box (element (tower x))) 0x63
    ∙ ap s_box (tower_enters x h ∙ xor_zero_r x)

pub substituted_of : (v : List ℕ) {t f : List ℕ} → IsVector v → t ≡ map tower v → f ≡ map (found S_I S_J) t
    → zip2 bit_xor f (replicate 16 0x63) ≡ map s_box v
substituted_of v h e e' =
    let looked = e' ∙ ap (map (found S_I S_J)) e ∙ map-map (found S_I S_J) tower v in
    ap (λ (f : List ℕ). zip2 bit_xor f (replicate 16 0x63)) looked
    ∙ zip2_splat bit_xor (map (λ x. found S_I S_J (tower x)) v) 16 0x63 (length-map v (λ x. found S_I S_J (tower x)) ∙ h.0)
    ∙ map-map (λ x. bit_xor x 0x63) (λ x. found S_I S_J (tower x)) v
    ∙ same_map (λ x. bit_xor (found S_I S_J (tower x)) 0x63) s_box v h.1 s_box_lane

-- ---- InvMixColumns of a key

abbrev pub times_14 : ℕ → ℕ
times_14 x = linear MASKED_INV_FOURTEEN_LOW INV_FOURTEEN_HIGH x

abbrev pub times_11 : ℕ → ℕ
times_11 x = linear INV_ELEVEN_LOW INV_ELEVEN_HIGH x

abbrev pub times_13 : ℕ → ℕ
times_13 x = linear INV_THIRTEEN_LOW INV_THIRTEEN_HIGH x

abbrev pub times_9 : ℕ → ℕ
times_9 x = linear INV_NINE_LOW INV_NINE_HIGH x

bytes_14 : gives_bytes times_14 ≡ true
unfolding below_test
bytes_14 = refl

bytes_11 : gives_bytes times_11 ≡ true
unfolding below_test
bytes_11 = refl

bytes_13 : gives_bytes times_13 ≡ true
unfolding below_test
bytes_13 = refl

bytes_9 : gives_bytes times_9 ≡ true
unfolding below_test
bytes_9 = refl

key_lane : (a b c d : ℕ) → IsByte a → IsByte b → IsByte c → IsByte d
    → affine_element (bit_xor (bit_xor (times_14 a) (times_11 b)) (bit_xor (times_13 c) (times_9 d)))
    ≡ bit_xor (bit_xor (bit_xor (product 14 a) (product 11 b)) (product 13 c)) (product 9 d)
key_lane a b c d ha hb hc hd =
    let p = byte_of times_14 a bytes_14 ha in
    let q = byte_of times_11 b bytes_11 hb in
    let r = byte_of times_13 c bytes_13 hc in
    let s = byte_of times_9 d bytes_9 hd in
    affine_element-xor (bit_xor (times_14 a) (times_11 b)) (bit_xor (times_13 c) (times_9 d)) (xor_lt 8 _ _ p q) (xor_lt 8 _ _ r s)
    ∙ ap₂ bit_xor
    (affine_element-xor (times_14 a) (times_11 b) p q ∙ ap₂ bit_xor (fourteen_enters a ha) (eleven_enters b hb))
    (linear_element-xor (times_13 c) (times_9 d) r s ∙ ap₂ bit_xor (thirteen_enters c hc) (nine_enters d hd))
    ∙ sym (xor_assoc (bit_xor (product 14 a) (product 11 b)) (product 13 c) (product 9 d))

abbrev pub vector_key : List ℕ → List ℕ
vector_key s =
    zip2 bit_xor (zip2 bit_xor (map times_14 s) (turned 1 (map times_11 s)))
    (zip2 bit_xor (turned 2 (map times_13 s)) (turned 3 (map times_9 s)))

module _ (f : ℕ → ℕ → ℕ) (hf : (r c : ℕ) → IsByte (f r c)) where
  key_lanes : (i : ℕ) {xs ys : List ℕ} → xs ≡ ys →
      affine_element (bit_xor (bit_xor (times_14 (f 0 i)) (times_11 (f 1 i))) (bit_xor (times_13 (f 2 i)) (times_9 (f 3 i))))
      ∷ affine_element (bit_xor (bit_xor (times_14 (f 1 i)) (times_11 (f 2 i))) (bit_xor (times_13 (f 3 i)) (times_9 (f 0 i))))
      ∷ affine_element (bit_xor (bit_xor (times_14 (f 2 i)) (times_11 (f 3 i))) (bit_xor (times_13 (f 0 i)) (times_9 (f 1 i))))
      ∷ affine_element (bit_xor (bit_xor (times_14 (f 3 i)) (times_11 (f 0 i))) (bit_xor (times_13 (f 1 i)) (times_9 (f 2 i))))
      ∷ xs
      ≡ bit_xor (bit_xor (bit_xor (product 14 (f 0 i)) (product 11 (f 1 i))) (product 13 (f 2 i))) (product 9 (f 3 i))
      ∷ bit_xor (bit_xor (bit_xor (product 9 (f 0 i)) (product 14 (f 1 i))) (product 11 (f 2 i))) (product 13 (f 3 i))
      ∷ bit_xor (bit_xor (bit_xor (product 13 (f 0 i)) (product 9 (f 1 i))) (product 14 (f 2 i))) (product 11 (f 3 i))
      ∷ bit_xor (bit_xor (bit_xor (product 11 (f 0 i)) (product 13 (f 1 i))) (product 9 (f 2 i))) (product 14 (f 3 i))
      ∷ ys
  key_lanes i rest =
      let a = f 0 i in
      let b = f 1 i in
      let c = f 2 i in
      let d = f 3 i in
      let ha = hf 0 i in
      let hb = hf 1 i in
      let hc = hf 2 i in
      let hd = hf 3 i in
      column
      (key_lane a b c d ha hb hc hd)
      (key_lane b c d a hb hc hd ha ∙ turned_sum (product 9 a) (product 14 b) (product 11 c) (product 13 d))
      (key_lane c d a b hc hd ha hb
      ∙ turned_sum (product 9 b) (product 14 c) (product 11 d) (product 13 a) ∙ turned_sum (product 13 a) (product 9 b) (product 14 c) (product 11 d))
      (key_lane d a b c hd ha hb hc ∙ sym (turned_sum (product 14 d) (product 11 a) (product 13 b) (product 9 c)))
      rest

  key_states : map affine_element (vector_key (state f)) ≡ inv_mix_columns (state f)
  unfolding turned multiplied
  key_states = key_lanes 0 (key_lanes 1 (key_lanes 2 (key_lanes 3 refl)))

pub mixed_form : (key : List ℕ) {v0 v1 v2 v3 p1 p2 p3 : List ℕ} → IsVector key
    → v0 ≡ map times_14 key → v1 ≡ map times_11 key → v2 ≡ map times_13 key → v3 ≡ map times_9 key
    → p1 ≡ turned 1 v1 → p2 ≡ turned 2 v2 → p3 ≡ turned 3 v3
    → map affine_element (zip2 bit_xor (zip2 bit_xor v0 p1) (zip2 bit_xor p2 p3)) ≡ inv_mix_columns key
mixed_form key h e0 e1 e2 e3 r1 r2 r3 =
    let b = vector_block key h in
    ap (map affine_element)
    (ap₂ (zip2 bit_xor) (ap₂ (zip2 bit_xor) e0 (r1 ∙ ap (turned 1) e1)) (ap₂ (zip2 bit_xor) (r2 ∙ ap (turned 2) e2) (r3 ∙ ap (turned 3) e3)))
    ∙ subst (λ (s : List ℕ). map affine_element (vector_key s) ≡ inv_mix_columns s) (state-entry key b) (key_states (entry key) (entry_byte key b))
