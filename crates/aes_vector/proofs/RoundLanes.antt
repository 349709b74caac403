-- What a round makes of each lane, and the rows of the standard's matrices.
use Rattle.std.proofs.Common.{◌≡◌, ℕ, Bool, true, List, bit_xor, refl, sym, ap, ap₂, ◌∙◌}
use Rattle.std.specs.Int.Bits.{xor_assoc, xor_zero_r}
use Rattle.std.proofs.lemmas.Nat.{xor_comm, xor_lt}
use Rattle.block_pair.specs.Words.{IsByte}
use Rattle.fips197.specs.Xor.{xor_middle, xor_last}
use Rattle.fips197.specs.Field.{product, polynomial_product, remainder, inverse}
use Rattle.fips197.specs.FieldLaw.{product-xor_left, product-xor_right}
use Rattle.fips197.specs.SBox.{s_box, inv_s_box}
use Rattle.aes_vector.specs.declared.tables.TheConstants.{ONE_I, ONE_J, TWO_I, TWO_J, NINE_I, NINE_J, ELEVEN_I, ELEVEN_J, THIRTEEN_I, THIRTEEN_J}
use Rattle.aes_vector.specs.declared.tables.TheConstants.{FOURTEEN_I, FOURTEEN_J}
use Rattle.aes_vector.specs.Tables.{place_i, place_j, over_i, over_j, found}
use Rattle.aes_vector.specs.Tower.{element, key_byte, affine_element}
use Rattle.aes_vector.proofs.EveryByte.{below_test, gives_bytes, byte_of}
use Rattle.aes_vector.proofs.Computed.{one_finds, two_finds, nine_finds, eleven_finds, thirteen_finds, fourteen_finds, inv_s_box_element}
use Rattle.aes_vector.proofs.XorMaps.{element-xor, linear_element-xor, affine_element-xor}

-- what is found is a byte
abbrev pub finds_bytes : List ℕ → List ℕ → Bool
finds_bytes by_i by_j = gives_bytes (found by_i by_j)

one_bytes : finds_bytes ONE_I ONE_J ≡ true
unfolding below_test found place_i place_j over_i over_j
one_bytes = refl

two_bytes : finds_bytes TWO_I TWO_J ≡ true
unfolding below_test found place_i place_j over_i over_j
two_bytes = refl

-- the first of four goes to the end
pub turned_sum : (a b c d : ℕ) → bit_xor (bit_xor (bit_xor b c) d) a ≡ bit_xor (bit_xor (bit_xor a b) c) d
turned_sum a b c d =
    xor_comm (bit_xor (bit_xor b c) d) a
    ∙ sym (xor_assoc a (bit_xor b c) d)
    ∙ ap (λ (x : ℕ). bit_xor x d) (sym (xor_assoc a b c))

-- the constants of four S-boxes come to one
constants : (p q r s k : ℕ)
    → bit_xor (bit_xor (bit_xor (bit_xor p 0xC6) k) (bit_xor q 0xA5)) (bit_xor (bit_xor r 0x63) (bit_xor s 0x63))
    ≡ bit_xor (bit_xor (bit_xor (bit_xor p q) r) s) (bit_xor k 0x63)
constants p q r s k =
    ap₂ bit_xor
    (xor_last (bit_xor p 0xC6) k (bit_xor q 0xA5) ∙ ap (λ (x : ℕ). bit_xor x k) (xor_middle p 0xC6 q 0xA5) ∙ xor_assoc (bit_xor p q) 0x63 k)
    (xor_middle r 0x63 s 0x63 ∙ xor_zero_r (bit_xor r s))
    ∙ xor_last (bit_xor p q) (bit_xor 0x63 k) (bit_xor r s)
    ∙ ap₂ bit_xor (sym (xor_assoc (bit_xor p q) r s)) (xor_comm 0x63 k)

-- the three lanes that a byte goes into
abbrev pub one : ℕ → ℕ
one x = found ONE_I ONE_J x

abbrev pub two : ℕ → ℕ
two x = found TWO_I TWO_J x

abbrev pub three : ℕ → ℕ
three x = bit_xor (one x) (two x)

one_byte : (x : ℕ) → IsByte x → IsByte (one x)
one_byte x h = byte_of (found ONE_I ONE_J) x one_bytes h

two_byte : (x : ℕ) → IsByte x → IsByte (two x)
two_byte x h = byte_of (found TWO_I TWO_J) x two_bytes h

three_byte : (x : ℕ) → IsByte x → IsByte (three x)
three_byte x h = xor_lt 8 (one x) (two x) (one_byte x h) (two_byte x h)

abbrev pub times : ℕ → ℕ → ℕ
times factor x = product factor (s_box (element x))

-- the constant of a multiple of the S-box
multiple : (factor s mask : ℕ) → product factor 0x63 ≡ mask → product factor (bit_xor s 0x63) ≡ bit_xor (product factor s) mask
multiple factor s mask e = product-xor_right factor s 0x63 ∙ ap (bit_xor (product factor s)) e

found_one : (x : ℕ) → IsByte x → element (one x) ≡ bit_xor (times 1 x) 0x63
unfolding product remainder polynomial_product
found_one x h = one_finds x h ∙ multiple 1 (s_box (element x)) 0x63 refl

found_two : (x : ℕ) → IsByte x → element (two x) ≡ bit_xor (times 2 x) 0xC6
unfolding product remainder polynomial_product
found_two x h = two_finds x h ∙ multiple 2 (s_box (element x)) 0xC6 refl

found_three : (x : ℕ) → IsByte x → element (three x) ≡ bit_xor (times 3 x) 0xA5
found_three x h =
    element-xor (one x) (two x) (one_byte x h) (two_byte x h)
    ∙ ap₂ bit_xor (found_one x h) (found_two x h)
    ∙ xor_middle (product 1 (s_box (element x))) 0x63 (product 2 (s_box (element x))) 0xC6
    ∙ ap (λ (y : ℕ). bit_xor y 0xA5) (sym (product-xor_left 1 2 (s_box (element x))))

-- a lane after a round, from the four that go into it
pub lane : (a b c d k : ℕ) → IsByte a → IsByte b → IsByte c → IsByte d → IsByte k
    → element (bit_xor (bit_xor (bit_xor (two a) k) (three b)) (bit_xor (one c) (one d)))
    ≡ bit_xor (bit_xor (bit_xor (bit_xor (times 2 a) (times 3 b)) (times 1 c)) (times 1 d)) (key_byte k)
unfolding key_byte
lane a b c d k ha hb hc hd hk =
    let p = two_byte a ha in
    let q = three_byte b hb in
    let r = one_byte c hc in
    let s = one_byte d hd in
    let pk : IsByte (bit_xor (two a) k) = xor_lt 8 (two a) k p hk in
    element-xor (bit_xor (bit_xor (two a) k) (three b)) (bit_xor (one c) (one d)) (xor_lt 8 _ _ pk q) (xor_lt 8 _ _ r s)
    ∙ ap₂ bit_xor
    (element-xor (bit_xor (two a) k) (three b) pk q
    ∙ ap₂ bit_xor (element-xor (two a) k p hk ∙ ap (λ (x : ℕ). bit_xor x (element k)) (found_two a ha)) (found_three b hb))
    (element-xor (one c) (one d) r s ∙ ap₂ bit_xor (found_one c hc) (found_one d hd))
    ∙ constants (times 2 a) (times 3 b) (times 1 c) (times 1 d) (element k)

-- ---- the same of a round of the inverse cipher

abbrev pub nine : ℕ → ℕ
nine x = found NINE_I NINE_J x

abbrev pub eleven : ℕ → ℕ
eleven x = found ELEVEN_I ELEVEN_J x

abbrev pub thirteen : ℕ → ℕ
thirteen x = found THIRTEEN_I THIRTEEN_J x

abbrev pub fourteen : ℕ → ℕ
fourteen x = found FOURTEEN_I FOURTEEN_J x

nine_bytes : finds_bytes NINE_I NINE_J ≡ true
unfolding below_test found place_i place_j over_i over_j
nine_bytes = refl

eleven_bytes : finds_bytes ELEVEN_I ELEVEN_J ≡ true
unfolding below_test found place_i place_j over_i over_j
eleven_bytes = refl

thirteen_bytes : finds_bytes THIRTEEN_I THIRTEEN_J ≡ true
unfolding below_test found place_i place_j over_i over_j
thirteen_bytes = refl

fourteen_bytes : finds_bytes FOURTEEN_I FOURTEEN_J ≡ true
unfolding below_test found place_i place_j over_i over_j
fourteen_bytes = refl

abbrev pub inv_times : ℕ → ℕ → ℕ
inv_times factor x = product factor (inv_s_box (affine_element x))

inv_found : (factor x : ℕ) {y : ℕ} → IsByte x → y ≡ product factor (inverse (element x)) → y ≡ inv_times factor x
inv_found factor x h e = e ∙ ap (product factor) (sym (inv_s_box_element x h))

-- the key goes to the end
inv_order : (p q r s k : ℕ) → bit_xor (bit_xor (bit_xor k p) q) (bit_xor r s) ≡ bit_xor (bit_xor (bit_xor (bit_xor p q) r) s) k
inv_order p q r s k =
    ap (λ (x : ℕ). bit_xor x (bit_xor r s)) (xor_assoc k p q)
    ∙ xor_assoc k (bit_xor p q) (bit_xor r s)
    ∙ xor_comm k (bit_xor (bit_xor p q) (bit_xor r s))
    ∙ ap (λ (x : ℕ). bit_xor x k) (sym (xor_assoc (bit_xor p q) r s))

pub inv_lane : (a b c d k : ℕ) → IsByte a → IsByte b → IsByte c → IsByte d → IsByte k
    → affine_element (bit_xor (bit_xor (bit_xor (fourteen a) k) (eleven b)) (bit_xor (thirteen c) (nine d)))
    ≡ bit_xor (bit_xor (bit_xor (bit_xor (inv_times 14 a) (inv_times 11 b)) (inv_times 13 c)) (inv_times 9 d)) (affine_element k)
inv_lane a b c d k ha hb hc hd hk =
    let p = byte_of (found FOURTEEN_I FOURTEEN_J) a fourteen_bytes ha in
    let q = byte_of (found ELEVEN_I ELEVEN_J) b eleven_bytes hb in
    let r = byte_of (found THIRTEEN_I THIRTEEN_J) c thirteen_bytes hc in
    let s = byte_of (found NINE_I NINE_J) d nine_bytes hd in
    let pk : IsByte (bit_xor (fourteen a) k) = xor_lt 8 (fourteen a) k p hk in
    affine_element-xor (bit_xor (bit_xor (fourteen a) k) (eleven b)) (bit_xor (thirteen c) (nine d)) (xor_lt 8 _ _ pk q) (xor_lt 8 _ _ r s)
    ∙ ap₂ bit_xor
    (affine_element-xor (bit_xor (fourteen a) k) (eleven b) pk q
    ∙ ap₂ bit_xor
    (ap affine_element (xor_comm (fourteen a) k)
    ∙ affine_element-xor k (fourteen a) hk p
    ∙ ap (bit_xor (affine_element k)) (inv_found 14 a ha (fourteen_finds a ha)))
    (inv_found 11 b hb (eleven_finds b hb)))
    (linear_element-xor (thirteen c) (nine d) r s ∙ ap₂ bit_xor (inv_found 13 c hc (thirteen_finds c hc)) (inv_found 9 d hd (nine_finds d hd)))
    ∙ inv_order (inv_times 14 a) (inv_times 11 b) (inv_times 13 c) (inv_times 9 d) (affine_element k)
