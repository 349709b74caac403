-- States by their entries.
use Rattle.std.proofs.Common.{◌≡◌, ℕ, zero, suc, ◌+◌, ◌*◌, ◌/◌, ◌%◌, ◌<◌, List, [], ◌∷◌, get_or, map, nat_lt, true, refl, ap₂, arith, ◌∙◌, sym}
use Rattle.std.specs.List.{AllByRecursion, list_all, range_with_len}
use Rattle.std.proofs.lemmas.Bool.{and_parts, ltb-true}
use Rattle.std.proofs.lemmas.List.FromFn.{fill_by_all, get_or-map-range_with_len}
use Rattle.block_pair.specs.Words.{IsByte, IsBlock}
use Rattle.fips197.specs.State.{entry, state}

pub byte_at : (s : List ℕ) (i : ℕ) → AllByRecursion IsByte s → IsByte (get_or s i 0)
byte_at [] i h = omega arith
byte_at (x ∷ s) zero h = h.0
byte_at (x ∷ s) (suc i) h = byte_at s i h.1

-- a list of bytes, by a test that computes
pub all_bytes : (s : List ℕ) → list_all (λ x. nat_lt x 256) s ≡ true → AllByRecursion IsByte s
all_bytes [] e = tt
all_bytes (x ∷ s) e =
    let parts = and_parts (nat_lt x 256) (list_all (λ y. nat_lt y 256) s) e in
    (ltb-true x 256 parts.0, all_bytes s parts.1)

-- each entry of a block is a byte
pub entry_byte : (s : List ℕ) → IsBlock s → (r c : ℕ) → IsByte (entry s r c)
entry_byte s h r c = byte_at s (r + 4 * c) h.bytes

mapped_bytes : (f : ℕ → ℕ) (a n : ℕ) → ((i : ℕ) → IsByte (f i)) → AllByRecursion IsByte (map f (range_with_len a n))
mapped_bytes f a zero h = tt
mapped_bytes f a (suc n) h = (h a, mapped_bytes f (a + 1) n h)

-- a state of bytes is a block
pub state_block : (f : ℕ → ℕ → ℕ) → ((r c : ℕ) → IsByte (f r c)) → IsBlock (state f)
state_block f h = record { sixteen = refl; bytes = mapped_bytes (λ i. f (i % 4) (i / 4)) 0 16 (λ i. h (i % 4) (i / 4)) }

-- a block is the state of its entries
pub state-entry : (s : List ℕ) → IsBlock s → state (entry s) ≡ s
state-entry s h = sym (fill_by_all (λ (i : ℕ). get_or s i 0) s 16 0 h.sixteen (λ k lt. refl))

-- the entries of a state
pub entry-state : (f : ℕ → ℕ → ℕ) (r c : ℕ) → r < 4 → c < 4 → entry (state f) r c ≡ f r c
entry-state f r c hr hc =
    let place : r + 4 * c < 16 = omega arith in
    let row : (r + 4 * c) % 4 ≡ r = omega arith in
    let column : (r + 4 * c) / 4 ≡ c = omega arith in
    get_or-map-range_with_len (λ (i : ℕ). f (i % 4) (i / 4)) 0 16 (r + 4 * c) (r + 4 * c) 0 place (omega arith) ∙ ap₂ f row column

-- states with equal entries are equal
pub state_same : (f g : ℕ → ℕ → ℕ) → ((r c : ℕ) → r < 4 → c < 4 → f r c ≡ g r c) → state f ≡ state g
state_same f g h =
    fill_by_all (λ (i : ℕ). g (i % 4) (i / 4)) (state f) 16 0 refl
    (λ k lt. get_or-map-range_with_len (λ (i : ℕ). f (i % 4) (i / 4)) 0 16 k k 0 lt (omega arith) ∙ h (k % 4) (k / 4) (omega arith) (omega arith))

-- a state is the block whose entries it has
pub state_is : (f : ℕ → ℕ → ℕ) (s : List ℕ) → IsBlock s → ((r c : ℕ) → r < 4 → c < 4 → f r c ≡ entry s r c) → state f ≡ s
state_is f s b h = state_same f (entry s) h ∙ state-entry s b
