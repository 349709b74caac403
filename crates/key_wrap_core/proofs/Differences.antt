-- What one number that is 0 says of its parts: a difference of two words, the last bytes of a word.
use Rattle.std.proofs.Common.{◌≡◌, ℕ, zero, suc, ◌+◌, ◌-◌, ◌*◌, ◌%◌, ◌^◌, ◌≤◌, ◌<◌, List, length, get_or, drop, refl, sym, ap, ◌∙◌}
use Rattle.std.proofs.Common.{arith, bit_xor, bit_and, inl, inr}
use Rattle.std.proofs.Common.{length-drop}
use Rattle.std.specs.Prelude.{slice_index, bit_or}
use Rattle.std.specs.Int.Bits.{xor_add_and, xor_self, or_zero_l}
use Rattle.std.specs.List.{All}
use Rattle.std.proofs.lemmas.Nat.{le_or_l, le_or_r, and_le_l, and_le_r, and_mask, pow-add}
use Rattle.std.proofs.lemmas.List.{get_or-drop}
use Rattle.std.proofs.lemmas.Grind.{get_or_default_zero}
use Rattle.std.proofs.Math.Nat.{mul_assoc, mul-le-mul_left, mul-add-mod_self_right, mod-eq_of_lt, eq-or-lt_of_le}
use Rattle.byteorder.specs.Endian.{big_from}
use Rattle.byteorder.specs.Numbers.{big_from-lt}

pub or_parts : (a b : ℕ) → bit_or a b ≡ 0 → (a ≡ 0) × (b ≡ 0)
or_parts a b e = (omega (arith, le_or_l a b), omega (arith, le_or_r a b))

pub or_both : (a b : ℕ) → a ≡ 0 → b ≡ 0 → bit_or a b ≡ 0
or_both a b e f = rw (e, f) (or_zero_l 0)

pub xor_same : (a b : ℕ) → bit_xor a b ≡ 0 → a ≡ b
xor_same a b e = omega (arith, xor_add_and a b, and_le_l a b, and_le_r a b)

pub same_xor : (a b : ℕ) → a ≡ b → bit_xor a b ≡ 0
same_xor a b e = rw e (xor_self b)

-- the lowest n bytes of the number in m + n bytes
low_bytes : (i m n j : ℕ) (xs : List ℕ) → ((k : ℕ) → slice_index xs k < 256) → j ≡ i + m → big_from i (m + n) xs % 256 ^ n ≡ big_from j n xs
low_bytes i zero n j xs bytes e =
    let same : i ≡ j = omega arith in
    let none : zero + n ≡ n = omega arith in
    ap (λ (k : ℕ). big_from i k xs % 256 ^ n) none ∙ mod-eq_of_lt (big_from-lt i n xs bytes) ∙ ap (λ (k : ℕ). big_from k n xs) same
low_bytes i (suc m) n j xs bytes e =
    let x : ℕ = slice_index xs i in
    let rest : ℕ = big_from (suc i) (m + n) xs in
    let shift : x * 256 ^ (m + n) ≡ x * 256 ^ m * 256 ^ n = ap (λ (v : ℕ). x * v) (pow-add 256 m n) ∙ sym (mul_assoc x (256 ^ m) (256 ^ n)) in
    let more : suc m + n ≡ suc (m + n) = omega arith in
    ap (λ (k : ℕ). big_from i k xs % 256 ^ n) more ∙ ap (λ (v : ℕ). (v + rest) % 256 ^ n) shift
    ∙ mul-add-mod_self_right (x * 256 ^ m) (256 ^ n) rest ∙ low_bytes (suc i) m n j xs bytes (omega arith)

-- bytes whose number is 0 are zeros
each_zero : (i n k : ℕ) (xs : List ℕ) → ((k : ℕ) → slice_index xs k < 256) → big_from i n xs ≡ 0 → i ≤ k → k < i + n → slice_index xs k ≡ 0
each_zero i zero k xs bytes e from to = absurd (omega arith)
each_zero i (suc n) k xs bytes e from to =
    let x : ℕ = slice_index xs i in
    let some : 1 ≤ 256 ^ n = omega (arith, big_from-lt i n xs bytes) in
    let less : x * 1 ≤ x * 256 ^ n = mul-le-mul_left x some in
    let none : x ≡ 0 = omega arith in
    elim (eq-or-lt_of_le from) [
      | inl same ↦ ap (λ (j : ℕ). slice_index xs j) (sym same) ∙ none
      | inr later ↦ each_zero (suc i) n k xs bytes (omega arith) later (omega arith)
    ]

-- and zeros have the number 0
number_zero : (i n : ℕ) (xs : List ℕ) → ((k : ℕ) → i ≤ k → k < i + n → slice_index xs k ≡ 0) → big_from i n xs ≡ 0
number_zero i zero xs h = refl
number_zero i (suc n) xs h =
    let first : slice_index xs i ≡ 0 = h i (omega arith) (omega arith) in
    let rest = number_zero (suc i) n xs (λ k from to. h k (omega arith) (omega arith)) in
    rw first (omega (arith, rest))

-- a mask of the last bytes of a word, fewer than eight
pub low_mask : (word count : ℕ) → count < 8 → bit_and word (1 * 2 ^ (8 * count) % 2 ^ 64 - 1) ≡ word % 256 ^ count
low_mask word zero few = and_mask word 0
low_mask word (suc zero) few = and_mask word 8
low_mask word (suc (suc zero)) few = and_mask word 16
low_mask word (suc (suc (suc zero))) few = and_mask word 24
low_mask word (suc (suc (suc (suc zero)))) few = and_mask word 32
low_mask word (suc (suc (suc (suc (suc zero))))) few = and_mask word 40
low_mask word (suc (suc (suc (suc (suc (suc zero)))))) few = and_mask word 48
low_mask word (suc (suc (suc (suc (suc (suc (suc zero))))))) few = and_mask word 56
low_mask word (suc (suc (suc (suc (suc (suc (suc (suc n)))))))) few = absurd (omega arith)

-- the last bytes of registers, fewer than eight, are zeros if the number in the last word says so
module _ (registers : List ℕ) (p : ℕ) (some : 8 ≤ length registers) (few : p < 8) (bytes : (k : ℕ) → get_or registers k 0 < 256) where
  abbrev pub word : List ℕ
  word = drop (length registers - 8) registers

  in_word : (k : ℕ) → slice_index word k < 256
  in_word k = rw (get_or-drop (length registers - 8) registers k 0) (bytes (length registers - 8 + k))

  lowest : big_from 0 8 word % 256 ^ p ≡ big_from (8 - p) p word
  lowest =
      let eight : 8 - p + p ≡ 8 = omega arith in
      rw eight at (low_bytes 0 (8 - p) p (8 - p) word in_word (omega arith))

  pub blank_of : big_from 0 8 word % 256 ^ p ≡ 0 → All (λ byte. byte ≡ 0) (drop (length registers - p) registers)
  blank_of e k d below =
      let size = length-drop (length registers - p) registers in
      let place : length registers - 8 + (8 - p + k) ≡ length registers - p + k = omega arith in
      let zero_there : slice_index word (8 - p + k) ≡ 0 = each_zero (8 - p) p (8 - p + k) word in_word (sym lowest ∙ e) (omega arith) (omega (arith, size)) in
      get_or-drop (length registers - p) registers k d
      ∙ get_or_default_zero registers (length registers - p + k) d (omega (arith, size))
      ∙ ap (λ (i : ℕ). get_or registers i 0) (sym place)
      ∙ sym (get_or-drop (length registers - 8) registers (8 - p + k) 0)
      ∙ zero_there

  pub of_blank : All (λ byte. byte ≡ 0) (drop (length registers - p) registers) → big_from 0 8 word % 256 ^ p ≡ 0
  of_blank blank = lowest ∙ number_zero (8 - p) p word (λ k from to.
      let j : ℕ = k - (8 - p) in
      let place : length registers - 8 + k ≡ length registers - p + j = omega arith in
      get_or-drop (length registers - 8) registers k 0
      ∙ ap (λ (i : ℕ). get_or registers i 0) place
      ∙ sym (get_or-drop (length registers - p) registers j 0)
      ∙ blank j 0 (omega (arith, length-drop (length registers - p) registers)))
