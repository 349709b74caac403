-- How xor, shifts and single bits go together.
use Rattle.std.proofs.Common.{◌≡◌, ℕ, zero, suc, ◌+◌, ◌*◌, ◌%◌, ◌^◌, ◌<◌, ◌≤◌, bit_xor, refl, sym, ap, ◌∙◌, arith, zero-mul, one-mul, add-zero, zero-add}
use Rattle.std.proofs.Common.{pow_pos}
use Rattle.std.specs.Int.Bits.{xor_assoc, xor_self, xor_zero_r}
use Rattle.std.proofs.lemmas.Nat.{xor_comm, xor_block, xor_lt}

-- the middle two of four exchanged
pub xor_middle : (a b c d : ℕ) → bit_xor (bit_xor a b) (bit_xor c d) ≡ bit_xor (bit_xor a c) (bit_xor b d)
xor_middle a b c d =
    xor_assoc a b (bit_xor c d)
    ∙ ap (bit_xor a) (sym (xor_assoc b c d) ∙ ap (λ (x : ℕ). bit_xor x d) (xor_comm b c) ∙ xor_assoc c b d)
    ∙ sym (xor_assoc a c (bit_xor b d))

-- what differs from a by nothing is a
pub xor_zero_same : (a b : ℕ) → bit_xor a b ≡ 0 → a ≡ b
xor_zero_same a b h =
    sym (xor_zero_r a) ∙ ap (bit_xor a) (sym (xor_self b)) ∙ sym (xor_assoc a b b) ∙ ap (λ (x : ℕ). bit_xor x b) h

-- a shift moves over xor
pub xor-shift : (a b k : ℕ) → bit_xor a b * 2 ^ k ≡ bit_xor (a * 2 ^ k) (b * 2 ^ k)
xor-shift a b k =
    let fits : 0 < 2 ^ k = pow_pos k in
    sym (rw (add-zero, add-zero, add-zero) at (xor_block k a b 0 0 fits fits))

-- a bit, s, chooses x or nothing, and so does the sum of two bits modulo 2
pub bit_times_xor : (s x y : ℕ) → s < 2 → s * bit_xor x y ≡ bit_xor (s * x) (s * y)
bit_times_xor zero x y h = rw (zero-mul, zero-mul, zero-mul) refl
bit_times_xor (suc zero) x y h = rw (one-mul, one-mul, one-mul) refl
bit_times_xor (suc (suc s)) x y h = absurd (omega arith)

pub bits_times : (s t x : ℕ) → s < 2 → t < 2 → (s + t) % 2 * x ≡ bit_xor (s * x) (t * x)
bits_times zero zero x hs ht = rw (zero-mul) refl
bits_times zero (suc zero) x hs ht = rw (zero-mul, one-mul) refl
bits_times (suc zero) zero x hs ht = rw (zero-mul, one-mul) (sym (xor_zero_r x))
bits_times (suc zero) (suc zero) x hs ht = rw (one-mul, zero-mul) (sym (xor_self x))
bits_times zero (suc (suc t)) x hs ht = absurd (omega arith)
bits_times (suc zero) (suc (suc t)) x hs ht = absurd (omega arith)
bits_times (suc (suc s)) t x hs ht = absurd (omega arith)

pub bit_times-le : (s x : ℕ) → s < 2 → s * x ≤ x
bit_times-le zero x h = rw zero-mul (omega arith)
bit_times-le (suc zero) x h = rw one-mul (omega arith)
bit_times-le (suc (suc s)) x h = absurd (omega arith)

-- the last two exchanged
pub xor_last : (a b c : ℕ) → bit_xor (bit_xor a b) c ≡ bit_xor (bit_xor a c) b
xor_last a b c = xor_assoc a b c ∙ ap (bit_xor a) (xor_comm b c) ∙ sym (xor_assoc a c b)

-- what is added twice falls out
pub xor_twice : (a x : ℕ) → bit_xor (bit_xor a x) x ≡ a
xor_twice a x = xor_assoc a x x ∙ ap (bit_xor a) (xor_self x) ∙ xor_zero_r a

-- the two top bits are one, so xor clears them
pub xor_top-lt : (k top low mask : ℕ) → top < 2 → low < 2 ^ k → mask < 2 ^ k → bit_xor (top * 2 ^ k + low) (top * (1 * 2 ^ k + mask)) < 2 ^ k
xor_top-lt k zero low mask h hl hm = rw (zero-mul, zero-mul, zero-add, xor_zero_r) hl
xor_top-lt k (suc zero) low mask h hl hm =
    rw (one-mul (1 * 2 ^ k + mask), xor_block k 1 1 low mask hl hm, xor_self, zero-mul, zero-add) (xor_lt k low mask hl hm)
xor_top-lt k (suc (suc top)) low mask h hl hm = absurd (omega arith)
