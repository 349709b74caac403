-- The key expansion (FIPS 197, section 5.2). A key K is a list of 16, 24 or 32 bytes. A word here is a number below
-- 2 ^ 32: four bytes, the first of them the most significant.
use Rattle.std.specs.Prelude.{◌≡◌, ◌⊎◌, ℕ, zero, suc, ◌+◌, ◌-◌, ◌*◌, ◌/◌, ◌%◌, ◌<◌, ◌≤◌, ◌==◌, ◌&&◌, nat_lt, if◌then◌else◌, bit_xor, List, [], ◌∷◌, ◌++◌}
use Rattle.std.specs.Prelude.{length, map, drop, take, slice_index}
use Rattle.std.specs.Int.{w32, from_be_bytes, to_be_bytes}
use Rattle.std.specs.List.{flat_map}
use Rattle.fips197.specs.SBox.{s_box}

-- how many bytes a key-encryption key (KEK) may have (5, table 3)
abbrev pub IsKekLength : ℕ → Type 0
IsKekLength n = (n ≡ 16) ⊎ ((n ≡ 24) ⊎ (n ≡ 32))

-- Nk, how many words the key has (5, table 3)
abbrev pub key_words : List ℕ → ℕ
key_words K = length K / 4

-- Nr, how many rounds the cipher has: 10, 12 or 14 (5, table 3)
abbrev pub rounds_of : List ℕ → ℕ
rounds_of K = key_words K + 6

-- the word in the four bytes of K from place 4 * i on
abbrev pub key_word : List ℕ → ℕ → ℕ
key_word K i =
    from_be_bytes w32
    (slice_index K (4 * i) ∷ slice_index K (4 * i + 1) ∷ slice_index K (4 * i + 2) ∷ slice_index K (4 * i + 3) ∷ [])

-- RotWord turns the bytes a0, a1, a2, a3 into a1, a2, a3, a0
unfoldable pub rot_word : ℕ → ℕ
rot_word w = let a = to_be_bytes w32 w in from_be_bytes w32 (drop 1 a ++ take 1 a)

-- SubWord is the S-box on each of the four bytes
unfoldable pub sub_word : ℕ → ℕ
sub_word w = from_be_bytes w32 (map s_box (to_be_bytes w32 w))

-- Rcon[1] to Rcon[10] (5.2, table 5)
abbrev pub round_constants : List ℕ
round_constants =
    0x01000000 ∷ 0x02000000 ∷ 0x04000000 ∷ 0x08000000 ∷ 0x10000000
    ∷ 0x20000000 ∷ 0x40000000 ∷ 0x80000000 ∷ 0x1b000000 ∷ 0x36000000 ∷ []

-- what is xored to w[i - Nk] to give w[i], from w[i - 1]: one of three cases
unfoldable pub temp : ℕ → ℕ → ℕ → ℕ
temp Nk i w =
    if i % Nk == 0 then bit_xor (sub_word (rot_word w)) (slice_index round_constants (i / Nk - 1))
    else if (Nk == 8) && (i % 8 == 4) then sub_word w
    else w

-- w is the key schedule of K: the words of K, and then the standard's equation at each place
pub record IsKeyExpansion (K w : List ℕ) : Type 0 where
  pub count : length w ≡ 4 * (rounds_of K + 1)
  pub key : (i : ℕ) → i < key_words K → slice_index w i ≡ key_word K i
  pub next : (i : ℕ) → key_words K ≤ i → i < 4 * (rounds_of K + 1)
      → slice_index w i ≡ bit_xor (slice_index w (i - key_words K)) (temp (key_words K) i (slice_index w (i - 1)))

-- w[i], from the words before it
unfoldable pub next_word : List ℕ → List ℕ → ℕ → ℕ
next_word K w i =
    if nat_lt i (key_words K) then key_word K i
    else bit_xor (slice_index w (i - key_words K)) (temp (key_words K) i (slice_index w (i - 1)))

-- the first n words of the key schedule
unfoldable pub first_words : List ℕ → ℕ → List ℕ
first_words K zero = []
first_words K (suc n) = let w = first_words K n in w ++ next_word K w n ∷ []

-- KeyExpansion(K), the key schedule, computed
unfoldable pub key_expansion : List ℕ → List ℕ
key_expansion K = first_words K (4 * (rounds_of K + 1))

-- Nr, from the length of a key schedule w: 4 * (Nr + 1) words
abbrev pub rounds_in : List ℕ → ℕ
rounds_in w = length w / 4 - 1

-- round key k of a key schedule w: the 16 bytes of the words w[4k] to w[4k + 3] (5.1.4)
unfoldable pub round_key : List ℕ → ℕ → List ℕ
round_key w k = flat_map (λ c. to_be_bytes w32 (slice_index w (4 * k + c))) (0 ∷ 1 ∷ 2 ∷ 3 ∷ [])
