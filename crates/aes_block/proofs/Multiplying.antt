-- What the product's code computes at each step, and the tests over the bytes that it rests on.
-- A rule of one byte is computed at all 256; a step with one bit more of b is distributivity over xor.
use Rattle.std.proofs.Common.{◌≡◌, ◌≢◌, ℕ, ◌+◌, ◌*◌, ◌/◌, ◌%◌, ◌^◌, ◌<◌, Bool, true, ◌||◌, ◌==◌, if◌then◌else◌, bit_and, bit_xor, refl, sym, ap, ◌∙◌, arith}
use Rattle.std.proofs.Common.{eqb-true, ne_eqb, mod-lt, zero-mul, one-mul, pow_pos}
use Rattle.std.specs.Int.{bit_at}
use Rattle.std.specs.Int.Bits.{xor_self, xor_shifted, xor_zero_r}
use Rattle.std.proofs.lemmas.Nat.{mod-pow-add, xor_comm}
use Rattle.std.proofs.lemmas.Nat.Bits.{bit_at-lt, shr_and_one}
use Rattle.std.proofs.lemmas.Bool.Decides.{nat_tests}
use Rattle.block_pair.specs.Words.{IsByte}
use Rattle.fips197.specs.Field.{polynomial_product, remainder, product, inverse}
use Rattle.fips197.specs.FieldLaw.{product-xor_right}
use Rattle.fips197.specs.EveryByte.{passes_below, passes_at}

-- one is the unit
one_test : ℕ → Bool
one_test a = product a 1 == a

one_passes : passes_below 256 one_test ≡ true
unfolding one_test product remainder polynomial_product
one_passes = refl

pub product-one : (a : ℕ) → IsByte a → product a 1 ≡ a
unfolding one_test
product-one a h = eqb-true _ _ (passes_at 256 one_test a h one_passes)

pub product-zero : (a : ℕ) → product a 0 ≡ 0
product-zero a = product-xor_right a 0 0 ∙ xor_self (product a 0)

-- the product with the polynomial x, as the code computes it
shifted : ℕ → ℕ
shifted a = if bit_and a 0x80 == 0 then a * 2 % 256 else bit_xor (a * 2 % 256) 0x1B

shifted_test : ℕ → Bool
shifted_test a = shifted a == product a 2

shifted_passes : passes_below 256 shifted_test ≡ true
unfolding shifted shifted_test product remainder polynomial_product
shifted_passes = refl

pub shifted_low : (a : ℕ) → IsByte a → bit_and a 0x80 ≡ 0 → a * 2 % 256 ≡ product a 2
unfolding shifted shifted_test
shifted_low a h low =
    rw low at (eqb-true (shifted a) _ (passes_at 256 shifted_test a h shifted_passes))

pub shifted_high : (a : ℕ) → IsByte a → bit_and a 0x80 ≢ 0 → bit_xor (a * 2 % 256) 0x1B ≡ product a 2
unfolding shifted shifted_test
shifted_high a h high =
    let test = ne_eqb (bit_and a 0x80) 0 high in
    rw test at (eqb-true (shifted a) _ (passes_at 256 shifted_test a h shifted_passes))

-- the product with x^i, times x
powers_test : ℕ → ℕ → Bool
powers_test i a = product (product a (2 ^ i)) 2 == product a (2 ^ (i + 1))

powers_pass : passes_below 7 (λ i. passes_below 256 (powers_test i)) ≡ true
unfolding powers_test product remainder polynomial_product
powers_pass = refl

pub product-power : (a i : ℕ) → IsByte a → i < 7 → product (product a (2 ^ i)) 2 ≡ product a (2 ^ (i + 1))
unfolding powers_test
product-power a i h hi =
    eqb-true _ _ (passes_at 256 (powers_test i) a h (passes_at 7 (λ i. passes_below 256 (powers_test i)) i hi powers_pass))

-- a byte times its inverse
inverse_test : ℕ → Bool
inverse_test a = (a == 0) || (product a (inverse a) == 1)

inverse_passes : passes_below 256 inverse_test ≡ true
unfolding inverse_test inverse product remainder polynomial_product
inverse_passes = refl

nonzero_passes : (a p : ℕ) → ((a == 0) || (p == 1)) ≡ true → a ≢ 0 → p ≡ 1
nonzero_passes a p passed nonzero = grind (arith, nat_tests)

pub product-inverse : (a : ℕ) → IsByte a → a ≢ 0 → product a (inverse a) ≡ 1
unfolding inverse_test
product-inverse a h nonzero = nonzero_passes a _ (passes_at 256 inverse_test a h inverse_passes) nonzero

pub inverse-zero : inverse 0 ≡ 0
unfolding inverse product remainder polynomial_product
inverse-zero = refl

-- the product with one bit more of b
pub product_next : (a b i : ℕ) → product a (b % 2 ^ (i + 1)) ≡ bit_xor (product a (b % 2 ^ i)) (product a (bit_at b i * 2 ^ i))
product_next a b i =
    let width : i + 1 ≡ 1 + i = omega arith in
    let low : b % 2 ^ i < 2 ^ i = mod-lt b (pow_pos i) in
    rw (width, mod-pow-add b 1 i)
    (ap (product a) (sym (xor_shifted (bit_at b i) i (b % 2 ^ i) low) ∙ xor_comm (bit_at b i * 2 ^ i) (b % 2 ^ i))
    ∙ product-xor_right a (b % 2 ^ i) (bit_at b i * 2 ^ i))

-- a step of the loop at a bit that is set
pub set_step : (a b i sum shift : ℕ) → bit_and (b / 2 ^ i) 1 ≡ 1 → sum ≡ product a (b % 2 ^ i) → shift ≡ product a (2 ^ i)
    → bit_xor sum shift ≡ product a (b % 2 ^ (i + 1))
set_step a b i sum shift set hs hx =
    let bit : bit_at b i ≡ 1 = sym (shr_and_one b i) ∙ set in
    rw (product_next a b i, bit, one-mul (2 ^ i), hs, hx) refl

-- a step of the loop at a bit that is not
pub unset_step : (a b i sum : ℕ) → bit_and (b / 2 ^ i) 1 ≢ 1 → sum ≡ product a (b % 2 ^ i) → sum ≡ product a (b % 2 ^ (i + 1))
unset_step a b i sum unset hs =
    let below : bit_at b i < 2 = bit_at-lt b i in
    let bit : bit_at b i ≡ 0 = omega (arith, shr_and_one b i) in
    rw (product_next a b i, bit, zero-mul (2 ^ i), product-zero a, xor_zero_r (product a (b % 2 ^ i))) hs
