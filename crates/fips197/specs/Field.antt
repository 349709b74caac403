-- The field of 256 elements (FIPS 197, section 4). A byte with bits b7 .. b0 is the polynomial with these
-- coefficients over the field of two elements, so the sum of two bytes is their xor.
use Rattle.std.specs.Prelude.{◌≡◌, ℕ, zero, suc, ◌+◌, ◌*◌, ◌^◌, bit_xor}
use Rattle.std.specs.Int.{bit_at}
use Rattle.block_pair.specs.Words.{IsByte}

-- the polynomial m = x^8 + x^4 + x^3 + x + 1 (4.2)
abbrev pub modulus : ℕ
modulus = 0x11b

-- the product of a and the n low bits of b as polynomials: the sum of a * x^i over the places i of the ones of b
unfoldable pub polynomial_product : ℕ → ℕ → ℕ → ℕ
polynomial_product zero a b = 0
polynomial_product (suc n) a b = bit_xor (polynomial_product n a b) (bit_at b n * (a * 2 ^ n))

-- p is the product of a and b in the field (4.2): a byte that differs from their product as polynomials by a
-- multiple of m
abbrev pub IsFieldProduct : ℕ → ℕ → ℕ → Type 0
IsFieldProduct a b p =
    IsByte p × ((q : ℕ) × (IsByte q × (bit_xor (polynomial_product 8 a b) p ≡ polynomial_product 8 modulus q)))

-- what long division by m leaves of a polynomial of degree below 8 + n
unfoldable pub remainder : ℕ → ℕ → ℕ
remainder zero p = p
remainder (suc n) p = remainder n (bit_xor p (bit_at p (8 + n) * (modulus * 2 ^ n)))

-- the product of two bytes in the field, computed
unfoldable pub product : ℕ → ℕ → ℕ
product a b = remainder 7 (polynomial_product 8 a b)

-- f distributes over xor in each argument
pub record DistributesOverXor (f : ℕ → ℕ → ℕ) : Type 0 where
  pub left : (a b c : ℕ) → f (bit_xor a b) c ≡ bit_xor (f a c) (f b c)
  pub right : (a b c : ℕ) → f a (bit_xor b c) ≡ bit_xor (f a b) (f a c)

-- x to the power 254 (4.4), which is the inverse of x, and 0 for 0: x^2, x^4 .. x^128, each the square of the one
-- before, multiplied together, in 13 products
unfoldable pub inverse : ℕ → ℕ
inverse x =
    let x2 = product x x in
    let x4 = product x2 x2 in
    let x8 = product x4 x4 in
    let x16 = product x8 x8 in
    let x32 = product x16 x16 in
    let x64 = product x32 x32 in
    let x128 = product x64 x64 in
    product (product (product (product (product (product x2 x4) x8) x16) x32) x64) x128
