-- InvMixColumns undoes MixColumns, and the other way round: the product of the two matrices is the identity.
use Rattle.std.proofs.Common.{◌≡◌, ℕ, zero, suc, ◌+◌, ◌*◌, ◌/◌, ◌%◌, ◌<◌, List, Bool, true, false, cond, eqb, get_or, bit_xor, refl, sym, ap, ap₂, subst, arith, ◌∙◌}
use Rattle.std.specs.Int.Bits.{xor_zero_r}
use Rattle.std.specs.List.{AllByRecursion}
use Rattle.std.proofs.lemmas.Nat.{xor_lt}
use Rattle.std.proofs.lemmas.Bool.{eqb-true}
use Rattle.block_pair.specs.Words.{IsByte, IsBlock}
use Rattle.fips197.specs.Field.{product, remainder, polynomial_product}
use Rattle.fips197.specs.FieldLaw.{product_byte, product-xor_right}
use Rattle.fips197.specs.Xor.{xor_middle}
use Rattle.fips197.specs.EveryByte.{passes_below, passes_at}
use Rattle.fips197.specs.State.{entry}
use Rattle.fips197.specs.Rounds.{sum_of_four, multiplied, mix_matrix, inv_mix_matrix}
use Rattle.fips197.specs.StateLaw.{byte_at, entry_byte, state_block, state_is, entry-state}

-- ---- sums in the field

pub xor_byte : (a b : ℕ) → IsByte a → IsByte b → IsByte (bit_xor a b)
xor_byte a b ha hb = xor_lt 8 a b ha hb

sum_of_four-xor : (f g : ℕ → ℕ) → bit_xor (sum_of_four f) (sum_of_four g) ≡ sum_of_four (λ k. bit_xor (f k) (g k))
sum_of_four-xor f g =
    xor_middle (bit_xor (bit_xor (f 0) (f 1)) (f 2)) (f 3) (bit_xor (bit_xor (g 0) (g 1)) (g 2)) (g 3)
    ∙ ap (λ (x : ℕ). bit_xor x (bit_xor (f 3) (g 3)))
    (xor_middle (bit_xor (f 0) (f 1)) (f 2) (bit_xor (g 0) (g 1)) (g 2)
    ∙ ap (λ (x : ℕ). bit_xor x (bit_xor (f 2) (g 2))) (xor_middle (f 0) (f 1) (g 0) (g 1)))

-- the sum by rows is the sum by columns
sums_exchanged : (f : ℕ → ℕ → ℕ) → sum_of_four (λ j. sum_of_four (λ k. f j k)) ≡ sum_of_four (λ k. sum_of_four (λ j. f j k))
sums_exchanged f =
    ap (λ (x : ℕ). bit_xor (bit_xor x (sum_of_four (f 2))) (sum_of_four (f 3))) (sum_of_four-xor (f 0) (f 1))
    ∙ ap (λ (x : ℕ). bit_xor x (sum_of_four (f 3))) (sum_of_four-xor (λ k. bit_xor (f 0 k) (f 1 k)) (f 2))
    ∙ sum_of_four-xor (λ k. bit_xor (bit_xor (f 0 k) (f 1 k)) (f 2 k)) (f 3)

sum_of_four_same : (f g : ℕ → ℕ) → ((k : ℕ) → k < 4 → f k ≡ g k) → sum_of_four f ≡ sum_of_four g
sum_of_four_same f g h =
    ap₂ bit_xor (ap₂ bit_xor (ap₂ bit_xor (h 0 (omega arith)) (h 1 (omega arith))) (h 2 (omega arith))) (h 3 (omega arith))

pub sum_of_four_byte : (f : ℕ → ℕ) → ((k : ℕ) → IsByte (f k)) → IsByte (sum_of_four f)
sum_of_four_byte f h = xor_byte _ _ (xor_byte _ _ (xor_byte _ _ (h 0) (h 1)) (h 2)) (h 3)

product-sum_of_four : (a : ℕ) (f : ℕ → ℕ) → product a (sum_of_four f) ≡ sum_of_four (λ k. product a (f k))
product-sum_of_four a f =
    product-xor_right a (bit_xor (bit_xor (f 0) (f 1)) (f 2)) (f 3)
    ∙ ap (λ (x : ℕ). bit_xor x (product a (f 3)))
    (product-xor_right a (bit_xor (f 0) (f 1)) (f 2)
    ∙ ap (λ (x : ℕ). bit_xor x (product a (f 2))) (product-xor_right a (f 0) (f 1)))

-- ---- the product of two matrices

-- row r, column k of the product of the matrices n and m, times x
unfoldable pub chained : List ℕ → List ℕ → ℕ → ℕ → ℕ → ℕ
chained n m r k x = sum_of_four (λ j. product (get_or n (4 * r + j) 0) (product (get_or m (4 * j + k) 0) x))

-- row r, column k of the identity, times x
unit : ℕ → ℕ → ℕ → ℕ
unit r k x = cond (eqb r k) x 0

-- both are linear
chained-xor : (n m : List ℕ) (r k x y : ℕ) → chained n m r k (bit_xor x y) ≡ bit_xor (chained n m r k x) (chained n m r k y)
unfolding chained
chained-xor n m r k x y =
    let by : ℕ → ℕ → ℕ = λ z j. product (get_or n (4 * r + j) 0) (product (get_or m (4 * j + k) 0) z) in
    sum_of_four_same (by (bit_xor x y)) (λ j. bit_xor (by x j) (by y j))
    (λ j hj. ap (product (get_or n (4 * r + j) 0)) (product-xor_right (get_or m (4 * j + k) 0) x y)
    ∙ product-xor_right (get_or n (4 * r + j) 0) (product (get_or m (4 * j + k) 0) x) (product (get_or m (4 * j + k) 0) y))
    ∙ sym (sum_of_four-xor (by x) (by y))

cond-xor : (b : Bool) (x y : ℕ) → cond b (bit_xor x y) 0 ≡ bit_xor (cond b x 0) (cond b y 0)
cond-xor true x y = refl
cond-xor false x y = refl

unit-xor : (r k x y : ℕ) → unit r k (bit_xor x y) ≡ bit_xor (unit r k x) (unit r k y)
unfolding unit
unit-xor r k x y = cond-xor (eqb r k) x y

-- so they agree at a byte if they agree at its halves
halves_test : ℕ → Bool
halves_test x = eqb (bit_xor (1 * (x % 16)) (16 * (x / 16))) x

halves_computed : passes_below 256 halves_test ≡ true
unfolding halves_test
halves_computed = refl

halves : (x : ℕ) → IsByte x → bit_xor (1 * (x % 16)) (16 * (x / 16)) ≡ x
unfolding halves_test
halves x hx = eqb-true _ _ (passes_at 256 halves_test x hx halves_computed)

-- whether the product of the matrices n and m is the identity at the first 16 multiples of s
pub is_unit_at : List ℕ → List ℕ → ℕ → Bool
is_unit_at n m s = passes_below 4 (λ r. passes_below 4 (λ k. passes_below 16 (λ x. eqb (chained n m r k (s * x)) (unit r k (s * x)))))

-- it is the identity at each half of a byte
pub record IsUnit (n m : List ℕ) : Type 0 where
  pub low : is_unit_at n m 1 ≡ true
  pub high : is_unit_at n m 16 ≡ true

pub inv_mix-mix : IsUnit inv_mix_matrix mix_matrix
unfolding is_unit_at chained unit product remainder polynomial_product
inv_mix-mix = record { low = refl; high = refl }

pub mix-inv_mix : IsUnit mix_matrix inv_mix_matrix
unfolding is_unit_at chained unit product remainder polynomial_product
mix-inv_mix = record { low = refl; high = refl }

half-unit : (n m : List ℕ) (s : ℕ) → is_unit_at n m s ≡ true → (r k x : ℕ) → r < 4 → k < 4 → x < 16 → chained n m r k (s * x) ≡ unit r k (s * x)
unfolding is_unit_at
half-unit n m s e r k x hr hk hx =
    let test : ℕ → ℕ → ℕ → Bool = λ r k x. eqb (chained n m r k (s * x)) (unit r k (s * x)) in
    let row = passes_at 4 (λ r. passes_below 4 (λ k. passes_below 16 (test r k))) r hr e in
    let place = passes_at 4 (λ k. passes_below 16 (test r k)) k hk row in
    eqb-true (chained n m r k (s * x)) (unit r k (s * x)) (passes_at 16 (test r k) x hx place)

chained-unit : (n m : List ℕ) → IsUnit n m → (r k x : ℕ) → r < 4 → k < 4 → IsByte x → chained n m r k x ≡ unit r k x
chained-unit n m e r k x hr hk hx =
    let low = half-unit n m 1 e.low r k (x % 16) hr hk (omega arith) in
    let high = half-unit n m 16 e.high r k (x / 16) hr hk (omega arith) in
    subst (λ (y : ℕ). chained n m r k y ≡ unit r k y) (halves x hx)
    (chained-xor n m r k (1 * (x % 16)) (16 * (x / 16)) ∙ ap₂ bit_xor low high ∙ sym (unit-xor r k (1 * (x % 16)) (16 * (x / 16))))

-- a row of the identity picks an entry
sum_of_four-unit : (f : ℕ → ℕ) (r : ℕ) → r < 4 → sum_of_four (λ k. unit r k (f k)) ≡ f r
unfolding unit
sum_of_four-unit f zero hr = xor_zero_r _ ∙ xor_zero_r _ ∙ xor_zero_r _
sum_of_four-unit f (suc zero) hr = xor_zero_r _ ∙ xor_zero_r _
sum_of_four-unit f (suc (suc zero)) hr = xor_zero_r _
sum_of_four-unit f (suc (suc (suc zero))) hr = refl
sum_of_four-unit f (suc (suc (suc (suc r)))) hr = absurd (omega arith)

-- ---- each column multiplied by one matrix and then by the other

pub multiplied_block : (m s : List ℕ) → AllByRecursion IsByte m → IsBlock s → IsBlock (multiplied m s)
unfolding multiplied
multiplied_block m s hm hs =
    state_block _ (λ r c. sum_of_four_byte _ (λ k. product_byte _ _ (byte_at m (4 * r + k) hm) (entry_byte s hs k c)))

pub multiplied_undone : (n m s : List ℕ) → IsUnit n m → IsBlock s → multiplied n (multiplied m s) ≡ s
unfolding multiplied chained
multiplied_undone n m s e hs =
    let mixed : ℕ → ℕ → ℕ = λ r c. sum_of_four (λ k. product (get_or m (4 * r + k) 0) (entry s k c)) in
    state_is _ s hs (λ r c hr hc.
    sum_of_four_same _ (λ j. product (get_or n (4 * r + j) 0) (mixed j c)) (λ j hj. ap (product (get_or n (4 * r + j) 0)) (entry-state mixed j c hj hc))
    ∙ sum_of_four_same _ (λ j. sum_of_four (λ k. product (get_or n (4 * r + j) 0) (product (get_or m (4 * j + k) 0) (entry s k c))))
    (λ j hj. product-sum_of_four (get_or n (4 * r + j) 0) (λ k. product (get_or m (4 * j + k) 0) (entry s k c)))
    ∙ sums_exchanged (λ j k. product (get_or n (4 * r + j) 0) (product (get_or m (4 * j + k) 0) (entry s k c)))
    ∙ sum_of_four_same _ (λ k. unit r k (entry s k c)) (λ k hk. chained-unit n m e r k (entry s k c) hr hk (entry_byte s hs k c))
    ∙ sum_of_four-unit (λ k. entry s k c) r hr)
