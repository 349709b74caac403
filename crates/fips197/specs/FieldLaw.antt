-- The laws of the field product: it is a byte, and it distributes over xor in each argument.
use Rattle.std.proofs.Common.{◌≡◌, ◌↔◌, ℕ, zero, suc, ◌+◌, ◌-◌, ◌*◌, ◌/◌, ◌%◌, ◌^◌, ◌<◌, ◌≤◌, Bool, true, ◌||◌, ◌==◌, nat_le, bit_xor, refl, sym, ap, ap₂}
use Rattle.std.proofs.Common.{subst, ◌∙◌, arith, zero-mul, pow-suc, pow_pos, lit<}
use Rattle.std.specs.Int.{bit_at}
use Rattle.std.specs.Int.Bits.{xor_self, xor_zero_r}
use Rattle.std.proofs.lemmas.Nat.{xor_lt, pow-add, shl_below, shr_below, shr_split, mod_below}
use Rattle.std.proofs.lemmas.Nat.Bits.{bit_at-lt, bit_at_xor, bit_at_lowest, bit_at_above, bit_at_cat_low, bit_at_cat_high}
use Rattle.std.proofs.lemmas.Bool.Decides.{nat_tests}
use Rattle.block_pair.specs.Words.{IsByte}
use Rattle.fips197.specs.Field.{modulus, polynomial_product, remainder, product, IsFieldProduct, DistributesOverXor}
use Rattle.fips197.specs.Xor.{xor_middle, xor_last, xor_twice, xor_zero_same, xor-shift, bit_times_xor, bits_times, bit_times-le, xor_top-lt}
use Rattle.fips197.specs.EveryByte.{passes_below, passes_at}

pub polynomial_product-xor_right : (n a b c : ℕ) → polynomial_product n a (bit_xor b c) ≡ bit_xor (polynomial_product n a b) (polynomial_product n a c)
unfolding polynomial_product
polynomial_product-xor_right zero a b c = refl
polynomial_product-xor_right (suc n) a b c =
    rw (polynomial_product-xor_right n a b c, bit_at_xor b c n, bits_times (bit_at b n) (bit_at c n) (a * 2 ^ n) (bit_at-lt b n) (bit_at-lt c n))
    (xor_middle (polynomial_product n a b) (polynomial_product n a c) (bit_at b n * (a * 2 ^ n)) (bit_at c n * (a * 2 ^ n)))

pub polynomial_product-xor_left : (n a b c : ℕ) → polynomial_product n (bit_xor a b) c ≡ bit_xor (polynomial_product n a c) (polynomial_product n b c)
unfolding polynomial_product
polynomial_product-xor_left zero a b c = refl
polynomial_product-xor_left (suc n) a b c =
    rw (polynomial_product-xor_left n a b c, xor-shift a b n, bit_times_xor (bit_at c n) (a * 2 ^ n) (b * 2 ^ n) (bit_at-lt c n))
    (xor_middle (polynomial_product n a c) (polynomial_product n b c) (bit_at c n * (a * 2 ^ n)) (bit_at c n * (b * 2 ^ n)))

pub remainder-xor : (n p q : ℕ) → remainder n (bit_xor p q) ≡ bit_xor (remainder n p) (remainder n q)
unfolding remainder
remainder-xor zero p q = refl
remainder-xor (suc n) p q =
    let m = modulus * 2 ^ n in
    let s = bit_at p (8 + n) in
    let t = bit_at q (8 + n) in
    let split : bit_xor (bit_xor p q) (bit_at (bit_xor p q) (8 + n) * m) ≡ bit_xor (bit_xor p (s * m)) (bit_xor q (t * m)) =
    ap (λ (b : ℕ). bit_xor (bit_xor p q) (b * m)) (bit_at_xor p q (8 + n))
    ∙ ap (bit_xor (bit_xor p q)) (bits_times s t m (bit_at-lt p (8 + n)) (bit_at-lt q (8 + n)))
    ∙ xor_middle p q (s * m) (t * m) in
    ap (remainder n) split ∙ remainder-xor n (bit_xor p (s * m)) (bit_xor q (t * m))

pub product-xor_right : (a b c : ℕ) → product a (bit_xor b c) ≡ bit_xor (product a b) (product a c)
unfolding product
product-xor_right a b c = ap (remainder 7) (polynomial_product-xor_right 8 a b c) ∙ remainder-xor 7 _ _

pub product-xor_left : (a b c : ℕ) → product (bit_xor a b) c ≡ bit_xor (product a c) (product b c)
unfolding product
product-xor_left a b c = ap (remainder 7) (polynomial_product-xor_left 8 a b c) ∙ remainder-xor 7 _ _

pub product_distributes : DistributesOverXor product
product_distributes = record { left = product-xor_left; right = product-xor_right }

-- the product of a byte and n bits has 7 + n bits
pub polynomial_product-lt : (n a b : ℕ) → a < 2 ^ 8 → polynomial_product n a b < 2 ^ (7 + n)
unfolding polynomial_product
polynomial_product-lt zero a b h = omega arith
polynomial_product-lt (suc n) a b h =
    let before : polynomial_product n a b < 2 ^ (7 + n) = polynomial_product-lt n a b h in
    let shifted : a * 2 ^ n < 2 ^ (8 + n) = shl_below a 8 n h in
    let term : bit_at b n * (a * 2 ^ n) ≤ a * 2 ^ n = bit_times-le (bit_at b n) (a * 2 ^ n) (bit_at-lt b n) in
    let twice : 2 ^ suc (7 + n) ≡ 2 ^ (7 + n) * 2 = pow-suc 2 (7 + n) in
    let width : 7 + suc n ≡ suc (7 + n) = omega arith in
    let eight : 8 + n ≡ suc (7 + n) = omega arith in
    rw width
    (xor_lt (suc (7 + n)) (polynomial_product n a b) (bit_at b n * (a * 2 ^ n)) (omega arith) (rw (← eight) (omega arith)))

-- a step of the division clears the top bit
divided-lt : (n p : ℕ) → p < 2 ^ (8 + suc n) → bit_xor p (bit_at p (8 + n) * (modulus * 2 ^ n)) < 2 ^ (8 + n)
divided-lt n p h =
    let width : 8 + suc n ≡ 1 + (8 + n) = omega arith in
    let top : p / 2 ^ (8 + n) < 2 = shr_below p 1 (8 + n) (rw (← width) h) in
    let bit : bit_at p (8 + n) ≡ p / 2 ^ (8 + n) = omega arith in
    let low : p % 2 ^ (8 + n) < 2 ^ (8 + n) = mod_below p (2 ^ (8 + n)) (pow_pos (8 + n)) in
    let power : 2 ^ (8 + n) ≡ 2 ^ 8 * 2 ^ n = pow-add 2 8 n in
    let mask : 0x1b * 2 ^ n < 2 ^ (8 + n) = shl_below 0x1b 8 n (lit< tt) in
    let split : modulus * 2 ^ n ≡ 1 * 2 ^ (8 + n) + 0x1b * 2 ^ n = omega arith in
    let whole : p / 2 ^ (8 + n) * 2 ^ (8 + n) + p % 2 ^ (8 + n) ≡ p = shr_split p (8 + n) in
    rw (bit, split)
    (subst (λ (x : ℕ). bit_xor x (p / 2 ^ (8 + n) * (1 * 2 ^ (8 + n) + 0x1b * 2 ^ n)) < 2 ^ (8 + n)) whole
    (xor_top-lt (8 + n) (p / 2 ^ (8 + n)) (p % 2 ^ (8 + n)) (0x1b * 2 ^ n) top low mask))

pub remainder-lt : (n p : ℕ) → p < 2 ^ (8 + n) → remainder n p < 2 ^ 8
unfolding remainder
remainder-lt zero p h = h
remainder-lt (suc n) p h = remainder-lt n (bit_xor p (bit_at p (8 + n) * (modulus * 2 ^ n))) (divided-lt n p h)

pub product_byte : (a b : ℕ) → IsByte a → IsByte b → IsByte (product a b)
unfolding product
product_byte a b ha hb = remainder-lt 7 (polynomial_product 8 a b) (polynomial_product-lt 8 a b ha)

-- only the n low bits of the second argument matter
polynomial_product_low : (n a b c : ℕ) → ((i : ℕ) → i < n → bit_at b i ≡ bit_at c i) → polynomial_product n a b ≡ polynomial_product n a c
unfolding polynomial_product
polynomial_product_low zero a b c same = refl
polynomial_product_low (suc n) a b c same =
    rw (polynomial_product_low n a b c (λ i h. same i (omega arith)), same n (omega arith)) refl

-- a bit above the n low bits of q
bit_at_above_low : (n s q : ℕ) → s < 2 → q < 2 ^ n → bit_at (s * 2 ^ n + q) n ≡ s
bit_at_above_low n s q hs hq =
    let place : n - n ≡ 0 = omega arith in
    bit_at_cat_high s n q n hq (omega arith) ∙ ap (bit_at s) place ∙ bit_at_lowest s ∙ omega arith

-- long division: p and its remainder differ by a multiple of m
remainder_multiple : (n p : ℕ) → p < 2 ^ (8 + n) → (q : ℕ) × (q < 2 ^ n) × (bit_xor p (remainder n p) ≡ polynomial_product n modulus q)
unfolding remainder polynomial_product
remainder_multiple zero p h = (0, omega arith, xor_self p)
remainder_multiple (suc n) p h =
    let s = bit_at p (8 + n) in
    let x = s * (modulus * 2 ^ n) in
    let rest = bit_xor p x in
    let fewer = remainder_multiple n rest (divided-lt n p h) in
    let q : ℕ = fewer.0 in
    let bit : s < 2 = bit_at-lt p (8 + n) in
    let top : s * 2 ^ n ≤ 2 ^ n = bit_times-le s (2 ^ n) bit in
    let twice : 2 ^ suc n ≡ 2 ^ n * 2 = pow-suc 2 n in
    let lower : polynomial_product n modulus (s * 2 ^ n + q) ≡ bit_xor rest (remainder n rest) =
    polynomial_product_low n modulus (s * 2 ^ n + q) q (λ i hi. bit_at_cat_low s n q i hi) ∙ sym fewer.2 in (
      s * 2 ^ n + q,
      omega (arith, fewer.1),
      sym (rw (lower, bit_at_above_low n s q bit fewer.1)
          (xor_last rest (remainder n rest) x ∙ ap (λ (y : ℕ). bit_xor y (remainder n rest)) (xor_twice p x))),
    )

-- no multiple of m but 0 is a byte
multiples_test : ℕ → Bool
multiples_test q = (q == 0) || nat_le 256 (polynomial_product 8 modulus q)

multiples_large : passes_below 256 multiples_test ≡ true
unfolding multiples_test polynomial_product
multiples_large = refl

-- the product is a field product
product_is : (a b : ℕ) → IsByte a → IsByte b → IsFieldProduct a b (product a b)
unfolding product polynomial_product
product_is a b ha hb =
    let p = polynomial_product 8 a b in
    let divided = remainder_multiple 7 p (polynomial_product-lt 8 a b ha) in
    let q : ℕ = divided.0 in
    let fits : q < 2 ^ 7 = divided.1 in
    let high : bit_at q 7 ≡ 0 = bit_at_above q 7 7 fits (omega arith) in
    let same : polynomial_product 8 modulus q ≡ polynomial_product 7 modulus q =
    rw (high, zero-mul, xor_zero_r) refl in
    (product_byte a b ha hb, (q, (omega arith, divided.2 ∙ sym same)))

-- what the test says of q
multiple_is_zero : (q x : ℕ) → ((q == 0) || nat_le 256 x) ≡ true → x < 256 → q ≡ 0
multiple_is_zero q x passed small = grind (arith, nat_tests)

-- two bytes that differ by a multiple of m are one
same_byte : (p r q : ℕ) → IsByte p → IsByte r → IsByte q → bit_xor p r ≡ polynomial_product 8 modulus q → p ≡ r
unfolding multiples_test polynomial_product
same_byte p r q hp hr hq h =
    let small : bit_xor p r < 2 ^ 8 = xor_lt 8 p r hp hr in
    let none = multiple_is_zero q (polynomial_product 8 modulus q) (passes_at 256 multiples_test q hq multiples_large) (rw (← h) small) in
    xor_zero_same p r (h ∙ ap (polynomial_product 8 modulus) none)

-- the field product of two bytes is one byte, which product computes
pub product_only : (a b p : ℕ) → IsByte a → IsByte b → IsFieldProduct a b p ↔ (p ≡ product a b)
product_only a b p ha hb =
    let r = product a b in
    let whole = polynomial_product 8 a b in
    let is = product_is a b ha hb in (
      λ held.
          let q : ℕ = held.1.0 in
          let t : ℕ = is.1.0 in
          let apart : bit_xor p r ≡ polynomial_product 8 modulus (bit_xor q t) =
          sym (xor_middle whole p whole r ∙ ap (λ (x : ℕ). bit_xor x (bit_xor p r)) (xor_self whole))
          ∙ ap₂ bit_xor held.1.1.1 is.1.1.1
          ∙ sym (polynomial_product-xor_right 8 modulus q t) in
          same_byte p r (bit_xor q t) held.0 is.0 (xor_lt 8 q t held.1.1.0 is.1.1.0) apart,
      λ e. subst (λ (x : ℕ). IsFieldProduct a b x) (sym e) is,
    )
