-- What the tables hold, computed at every byte.
use Rattle.std.proofs.Common.{◌≡◌, ◌≢◌, ℕ, zero, suc, ◌<◌, Bool, true, ◌==◌, List, bit_xor, slice_index, refl, ◌∙◌, sym, ap, eqb-true, arith}
use Rattle.block_pair.specs.Words.{IsByte}
use Rattle.fips197.specs.EveryByte.{passes_below, passes_at}
use Rattle.fips197.specs.Field.{polynomial_product, remainder, product, inverse}
use Rattle.fips197.specs.SBox.{affine_bit, number_with_bits, s_box, inv_s_box}
use Rattle.fips197.specs.SBoxLaw.{inv_s_box-s_box}
use Rattle.aes_vector.specs.declared.tables.TheConstants.{INV, INVA, TOWER_LOW, TOWER_HIGH, MASKED_TOWER_LOW, INV_LOW, INV_HIGH, MASKED_INV_LOW}
use Rattle.aes_vector.specs.declared.tables.TheConstants.{MASKED_INV_FOURTEEN_LOW, INV_FOURTEEN_HIGH, INV_ELEVEN_LOW, INV_ELEVEN_HIGH, INV_THIRTEEN_LOW}
use Rattle.aes_vector.specs.declared.tables.TheConstants.{INV_THIRTEEN_HIGH, INV_NINE_LOW, INV_NINE_HIGH, ONE_I, ONE_J, TWO_I, TWO_J, S_I, S_J}
use Rattle.aes_vector.specs.declared.tables.TheConstants.{INV_S_I, INV_S_J}
use Rattle.aes_vector.specs.declared.tables.TheConstants.{FOURTEEN_I, FOURTEEN_J, ELEVEN_I, ELEVEN_J, THIRTEEN_I, THIRTEEN_J, NINE_I, NINE_J}
use Rattle.aes_vector.specs.Tower.{high, low, other, subfield, element, affine_element, linear_element}
use Rattle.aes_vector.specs.Tables.{is_place, over_i, over_j, place_i, place_j, found, linear, EntersTower, EntersInverse, EntersMaskedInverse}
use Rattle.aes_vector.specs.Tables.{FindsMultiple}
use Rattle.aes_vector.specs.Tables.{IsInversion, FindsSBox, FindsInverseMultiple, FindsInverse}
use Rattle.aes_vector.proofs.EveryByte.{same_test, agree, at_byte, below_test, gives_bytes, byte_of}

-- ---- each place is one

pub low-places : passes_below 256 (λ x. is_place (low x)) ≡ true
low-places = refl

pub high-places : passes_below 256 (λ x. is_place (high x)) ≡ true
high-places = refl

pub other-places : passes_below 256 (λ x. is_place (other x)) ≡ true
other-places = refl

pub over_i-places : passes_below 256 (λ x. is_place (over_i x)) ≡ true
unfolding over_i
over_i-places = refl

pub over_j-places : passes_below 256 (λ x. is_place (over_j x)) ≡ true
unfolding over_j
over_j-places = refl

pub place_i-places : passes_below 256 (λ x. is_place (place_i x)) ≡ true
unfolding over_i place_i
place_i-places = refl

pub place_j-places : passes_below 256 (λ x. is_place (place_j x)) ≡ true
unfolding over_j place_j
place_j-places = refl

-- ---- the inversion

inversion_test : List ℕ → ℕ → ℕ → Bool
inversion_test table a m = subfield (slice_index table (suc m)) == product a (inverse (subfield (suc m)))

inverts_at : (table : List ℕ) (a n : ℕ) → passes_below 15 (inversion_test table a) ≡ true → n < 16 → n ≢ 0
    → subfield (slice_index table n) ≡ product a (inverse (subfield n))
unfolding inversion_test
inverts_at table a zero e h some = absurd (some refl)
inverts_at table a (suc m) e h some = eqb-true _ _ (passes_at 15 (inversion_test table a) m (omega arith) e)

pub inv_inverts : IsInversion INV 1
unfolding inversion_test subfield inverse product remainder polynomial_product
inv_inverts = record { zero = refl; inverts = λ n h some. inverts_at INV 1 n refl h some }

pub inva_inverts : IsInversion INVA 0xED
unfolding inversion_test subfield inverse product remainder polynomial_product
inva_inverts = record { zero = refl; inverts = λ n h some. inverts_at INVA 0xED n refl h some }

-- ---- the linear maps into the tower

tower-agree : agree (λ x. element (linear TOWER_LOW TOWER_HIGH x)) (λ x. bit_xor x 0) ≡ true
unfolding same_test element subfield product remainder polynomial_product
tower-agree = refl

pub tower_enters : EntersTower TOWER_LOW TOWER_HIGH 0
tower_enters = λ x h. at_byte _ _ x tower-agree h

masked-agree : agree (λ x. element (linear MASKED_TOWER_LOW TOWER_HIGH x)) (λ x. bit_xor x 0x63) ≡ true
unfolding same_test element subfield product remainder polynomial_product
masked-agree = refl

pub masked_enters : EntersTower MASKED_TOWER_LOW TOWER_HIGH 0x63
masked_enters = λ x h. at_byte _ _ x masked-agree h

enters_agree : List ℕ → List ℕ → ℕ → Bool
enters_agree by_low by_high factor = agree (λ x. linear_element (linear by_low by_high x)) (product factor)

masked_enters_agree : List ℕ → List ℕ → ℕ → Bool
masked_enters_agree by_low by_high factor = agree (λ x. affine_element (linear by_low by_high x)) (product factor)

enters : (by_low by_high : List ℕ) (factor : ℕ) → enters_agree by_low by_high factor ≡ true → EntersInverse by_low by_high factor
unfolding enters_agree
enters by_low by_high factor e = λ x h. at_byte _ _ x e h

enters_masked : (by_low by_high : List ℕ) (factor : ℕ) → masked_enters_agree by_low by_high factor ≡ true → EntersMaskedInverse by_low by_high factor
unfolding masked_enters_agree
enters_masked by_low by_high factor e = λ x h. at_byte _ _ x e h

pub inv_enters : EntersInverse INV_LOW INV_HIGH 1
unfolding enters_agree same_test linear_element affine_element number_with_bits element subfield product remainder polynomial_product
inv_enters = enters INV_LOW INV_HIGH 1 refl

pub eleven_enters : EntersInverse INV_ELEVEN_LOW INV_ELEVEN_HIGH 11
unfolding enters_agree same_test linear_element affine_element number_with_bits element subfield product remainder polynomial_product
eleven_enters = enters INV_ELEVEN_LOW INV_ELEVEN_HIGH 11 refl

pub thirteen_enters : EntersInverse INV_THIRTEEN_LOW INV_THIRTEEN_HIGH 13
unfolding enters_agree same_test linear_element affine_element number_with_bits element subfield product remainder polynomial_product
thirteen_enters = enters INV_THIRTEEN_LOW INV_THIRTEEN_HIGH 13 refl

pub nine_enters : EntersInverse INV_NINE_LOW INV_NINE_HIGH 9
unfolding enters_agree same_test linear_element affine_element number_with_bits element subfield product remainder polynomial_product
nine_enters = enters INV_NINE_LOW INV_NINE_HIGH 9 refl

pub masked_inv_enters : EntersMaskedInverse MASKED_INV_LOW INV_HIGH 1
unfolding masked_enters_agree same_test affine_element number_with_bits element subfield product remainder polynomial_product
masked_inv_enters = enters_masked MASKED_INV_LOW INV_HIGH 1 refl

pub fourteen_enters : EntersMaskedInverse MASKED_INV_FOURTEEN_LOW INV_FOURTEEN_HIGH 14
unfolding masked_enters_agree same_test affine_element number_with_bits element subfield product remainder polynomial_product
fourteen_enters = enters_masked MASKED_INV_FOURTEEN_LOW INV_FOURTEEN_HIGH 14 refl

-- ---- the output tables: the inverse first, and the others by what it finds, since it takes the longest to compute

inv_s_agree : agree (λ x. found INV_S_I INV_S_J x) (λ x. inverse (element x)) ≡ true
unfolding same_test found place_i place_j over_i over_j element subfield inverse product remainder polynomial_product
inv_s_agree = refl

pub inverse_finds : FindsInverse INV_S_I INV_S_J
inverse_finds = λ x h. at_byte _ _ x inv_s_agree h

-- the S-box of a byte whose inverse is b, less its constant
masked_affine : ℕ → ℕ
masked_affine b = bit_xor (number_with_bits (affine_bit b) 8) 0x63

s_box_agree : agree (λ x. found S_I S_J x) (λ x. masked_affine (found INV_S_I INV_S_J x)) ≡ true
unfolding masked_affine same_test found place_i place_j over_i over_j number_with_bits
s_box_agree = refl

s_box_parts : (y : ℕ) → masked_affine (inverse y) ≡ bit_xor (s_box y) 0x63
unfolding masked_affine s_box
s_box_parts y = refl

pub s_box_finds : FindsSBox S_I S_J
s_box_finds = λ x h. at_byte _ _ x s_box_agree h ∙ ap masked_affine (inverse_finds x h) ∙ s_box_parts (element x)

multiple_agree : List ℕ → List ℕ → ℕ → Bool
multiple_agree by_i by_j factor = agree (λ x. element (found by_i by_j x)) (λ x. product factor (found S_I S_J x))

finds_multiple : (by_i by_j : List ℕ) (factor : ℕ) → multiple_agree by_i by_j factor ≡ true → FindsMultiple by_i by_j factor
unfolding multiple_agree
finds_multiple by_i by_j factor e = λ x h. at_byte _ _ x e h ∙ ap (product factor) (s_box_finds x h)

one_agree : multiple_agree ONE_I ONE_J 1 ≡ true
unfolding multiple_agree same_test found place_i place_j over_i over_j element subfield product remainder polynomial_product
one_agree = refl

two_agree : multiple_agree TWO_I TWO_J 2 ≡ true
unfolding multiple_agree same_test found place_i place_j over_i over_j element subfield product remainder polynomial_product
two_agree = refl

pub one_finds : FindsMultiple ONE_I ONE_J 1
one_finds = finds_multiple ONE_I ONE_J 1 one_agree

pub two_finds : FindsMultiple TWO_I TWO_J 2
two_finds = finds_multiple TWO_I TWO_J 2 two_agree

inverse_agree : List ℕ → List ℕ → ℕ → Bool
inverse_agree by_i by_j factor = agree (λ x. linear_element (found by_i by_j x)) (λ x. product factor (found INV_S_I INV_S_J x))

finds_inverse : (by_i by_j : List ℕ) (factor : ℕ) → inverse_agree by_i by_j factor ≡ true → FindsInverseMultiple by_i by_j factor
unfolding inverse_agree
finds_inverse by_i by_j factor e = λ x h. at_byte _ _ x e h ∙ ap (product factor) (inverse_finds x h)

nine_agree : inverse_agree NINE_I NINE_J 9 ≡ true
unfolding inverse_agree same_test found place_i place_j over_i over_j linear_element affine_element number_with_bits element subfield
    product remainder polynomial_product
nine_agree = refl

eleven_agree : inverse_agree ELEVEN_I ELEVEN_J 11 ≡ true
unfolding inverse_agree same_test found place_i place_j over_i over_j linear_element affine_element number_with_bits element subfield
    product remainder polynomial_product
eleven_agree = refl

thirteen_agree : inverse_agree THIRTEEN_I THIRTEEN_J 13 ≡ true
unfolding inverse_agree same_test found place_i place_j over_i over_j linear_element affine_element number_with_bits element subfield
    product remainder polynomial_product
thirteen_agree = refl

fourteen_agree : inverse_agree FOURTEEN_I FOURTEEN_J 14 ≡ true
unfolding inverse_agree same_test found place_i place_j over_i over_j linear_element affine_element number_with_bits element subfield
    product remainder polynomial_product
fourteen_agree = refl

pub nine_finds : FindsInverseMultiple NINE_I NINE_J 9
nine_finds = finds_inverse NINE_I NINE_J 9 nine_agree

pub eleven_finds : FindsInverseMultiple ELEVEN_I ELEVEN_J 11
eleven_finds = finds_inverse ELEVEN_I ELEVEN_J 11 eleven_agree

pub thirteen_finds : FindsInverseMultiple THIRTEEN_I THIRTEEN_J 13
thirteen_finds = finds_inverse THIRTEEN_I THIRTEEN_J 13 thirteen_agree

pub fourteen_finds : FindsInverseMultiple FOURTEEN_I FOURTEEN_J 14
fourteen_finds = finds_inverse FOURTEEN_I FOURTEEN_J 14 fourteen_agree

-- ---- the inverse of an element, and the inverse S-box of its affine map

inverse_s_box_agree : agree (λ x. s_box (found INV_S_I INV_S_J x)) affine_element ≡ true
unfolding same_test found place_i place_j over_i over_j affine_element element subfield s_box number_with_bits inverse product remainder
    polynomial_product
inverse_s_box_agree = refl

found_bytes : gives_bytes (λ x. found INV_S_I INV_S_J x) ≡ true
unfolding below_test found place_i place_j over_i over_j
found_bytes = refl

pub inv_s_box_element : (x : ℕ) → IsByte x → inv_s_box (affine_element x) ≡ inverse (element x)
inv_s_box_element x h =
    let b : ℕ = found INV_S_I INV_S_J x in
    ap inv_s_box (sym (at_byte _ _ x inverse_s_box_agree h)) ∙ inv_s_box-s_box b (byte_of _ x found_bytes h) ∙ inverse_finds x h
