-- Maps of bytes that distribute over xor: the elements of the tower, and their linear map.
-- A byte is the sum of its lower half and 16 times its upper; tests of the halves' sums say the rest.
use Rattle.std.proofs.Common.{◌≡◌, ℕ, ◌*◌, ◌/◌, ◌%◌, ◌<◌, Bool, true, ◌==◌, bit_xor, refl, sym, ap, ap₂, ◌∙◌, arith, eqb-true}
use Rattle.std.proofs.lemmas.Nat.{xor_shr, xor_mod, xor_lt}
use Rattle.block_pair.specs.Words.{IsByte}
use Rattle.fips197.specs.EveryByte.{passes_below, passes_at}
use Rattle.fips197.specs.Xor.{xor_middle, xor_last, xor_twice}
use Rattle.fips197.specs.Field.{polynomial_product, remainder, product}
use Rattle.fips197.specs.SBox.{number_with_bits}
use Rattle.aes_vector.specs.Tower.{subfield, element, affine_element, linear_element}
use Rattle.aes_vector.proofs.EveryByte.{same_test, agree, at_byte}

-- the map at the halves of a byte
abbrev pub of_halves : (ℕ → ℕ) → ℕ → ℕ
of_halves f x = bit_xor (f (x % 16)) (f (x / 16 * 16))

-- the map distributes over xor, if the halves are multiples of m
pub sum_test : (ℕ → ℕ) → ℕ → ℕ → ℕ → Bool
sum_test f m a b = f (bit_xor a b * m) == bit_xor (f (a * m)) (f (b * m))

abbrev pub sums : (ℕ → ℕ) → ℕ → Bool
sums f m = passes_below 16 (λ a. passes_below 16 (sum_test f m a))

sum_at : (f : ℕ → ℕ) (m a b : ℕ) → sums f m ≡ true → a < 16 → b < 16 → f (bit_xor a b * m) ≡ bit_xor (f (a * m)) (f (b * m))
unfolding sum_test
sum_at f m a b e ha hb = eqb-true _ _ (passes_at 16 (sum_test f m a) b hb (passes_at 16 (λ a. passes_below 16 (sum_test f m a)) a ha e))

pub map-xor : (f : ℕ → ℕ) (a b : ℕ) → agree f (of_halves f) ≡ true → sums f 1 ≡ true → sums f 16 ≡ true → IsByte a → IsByte b
    → f (bit_xor a b) ≡ bit_xor (f a) (f b)
map-xor f a b halves lower upper ha hb =
    let one : (n : ℕ) → n * 1 ≡ n = λ n. omega arith in
    let ra : a / 16 < 16 = omega arith in
    let rb : b / 16 < 16 = omega arith in
    at_byte f (of_halves f) (bit_xor a b) halves (xor_lt 8 a b ha hb)
    ∙ ap₂ bit_xor
    (ap f (xor_mod a b 4 ∙ sym (one (bit_xor (a % 16) (b % 16))))
    ∙ sum_at f 1 (a % 16) (b % 16) lower (omega arith) (omega arith)
    ∙ ap₂ (λ (x y : ℕ). bit_xor (f x) (f y)) (one (a % 16)) (one (b % 16)))
    (ap (λ (x : ℕ). f (x * 16)) (xor_shr a b 4) ∙ sum_at f 16 (a / 16) (b / 16) upper ra rb)
    ∙ xor_middle (f (a % 16)) (f (b % 16)) (f (a / 16 * 16)) (f (b / 16 * 16))
    ∙ sym (ap₂ bit_xor (at_byte f (of_halves f) a halves ha) (at_byte f (of_halves f) b halves hb))

element-halves : agree element (of_halves element) ≡ true
unfolding same_test element subfield product remainder polynomial_product
element-halves = refl

element-lower : sums element 1 ≡ true
unfolding sum_test element subfield product remainder polynomial_product
element-lower = refl

element-upper : sums element 16 ≡ true
unfolding sum_test element subfield product remainder polynomial_product
element-upper = refl

linear_element-halves : agree linear_element (of_halves linear_element) ≡ true
unfolding same_test linear_element affine_element number_with_bits element subfield product remainder polynomial_product
linear_element-halves = refl

linear_element-lower : sums linear_element 1 ≡ true
unfolding sum_test linear_element affine_element number_with_bits element subfield product remainder polynomial_product
linear_element-lower = refl

linear_element-upper : sums linear_element 16 ≡ true
unfolding sum_test linear_element affine_element number_with_bits element subfield product remainder polynomial_product
linear_element-upper = refl

pub element-xor : (a b : ℕ) → IsByte a → IsByte b → element (bit_xor a b) ≡ bit_xor (element a) (element b)
element-xor a b ha hb = map-xor element a b element-halves element-lower element-upper ha hb

pub linear_element-xor : (a b : ℕ) → IsByte a → IsByte b → linear_element (bit_xor a b) ≡ bit_xor (linear_element a) (linear_element b)
linear_element-xor a b ha hb = map-xor linear_element a b linear_element-halves linear_element-lower linear_element-upper ha hb

-- the constant 63 stays with the first of two
pub affine_linear : (x : ℕ) → affine_element x ≡ bit_xor (linear_element x) 0x63
unfolding linear_element
affine_linear x = sym (xor_twice (affine_element x) 0x63)

pub affine_element-xor : (a b : ℕ) → IsByte a → IsByte b → affine_element (bit_xor a b) ≡ bit_xor (affine_element a) (linear_element b)
affine_element-xor a b ha hb =
    affine_linear (bit_xor a b)
    ∙ ap (λ (x : ℕ). bit_xor x 0x63) (linear_element-xor a b ha hb)
    ∙ xor_last (linear_element a) (linear_element b) 0x63
    ∙ ap (λ (x : ℕ). bit_xor x (linear_element b)) (sym (affine_linear a))
