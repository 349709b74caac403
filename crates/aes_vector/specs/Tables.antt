-- What the tables of 16 bytes hold, and how a byte is looked up in them: by its halves, or by its element's inverse.
-- An index of 128 or more means infinity, the inverse of 0: it is past each table, and a shuffle gives 0 for it.
use Rattle.std.specs.Prelude.{◌≡◌, ◌≢◌, ◌<◌, ℕ, Bool, true, ◌||◌, nat_lt, nat_le, List, slice_index, bit_xor}
use Rattle.block_pair.specs.Words.{IsByte}
use Rattle.fips197.specs.Field.{product, inverse}
use Rattle.fips197.specs.SBox.{s_box}
use Rattle.aes_vector.specs.Tower.{low, high, other, subfield, element, affine_element, linear_element}
use Rattle.aes_vector.specs.declared.tables.TheConstants.{INV, INVA}

-- a place in a table, or infinity
abbrev pub is_place : ℕ → Bool
is_place j = nat_le 128 j || nat_lt j 16

abbrev pub IsPlace : ℕ → Type 0
IsPlace j = is_place j ≡ true

-- ---- the inversion

-- the table gives a / n in the field of 16, and infinity for n = 0
pub record IsInversion (table : List ℕ) (a : ℕ) : Type 0 where
  pub zero : slice_index table 0 ≡ 0x80
  pub inverts : (n : ℕ) → n < 16 → n ≢ 0 → subfield (slice_index table n) ≡ product a (inverse (subfield n))

-- 1 / i + a / (i + j) and 1 / j + a / (i + j), with a = ed equal to u / v + v / u
unfoldable pub over_i : ℕ → ℕ
over_i x = bit_xor (slice_index INV (high x)) (slice_index INVA (low x))

unfoldable pub over_j : ℕ → ℕ
over_j x = bit_xor (slice_index INV (other x)) (slice_index INVA (low x))

-- the places at which the output tables keep what they give for the inverse: 1 / (1 / i + a / (i + j)) + j, and the
-- same with i and j exchanged
unfoldable pub place_i : ℕ → ℕ
place_i x = bit_xor (slice_index INV (over_i x)) (other x)

unfoldable pub place_j : ℕ → ℕ
place_j x = bit_xor (slice_index INV (over_j x)) (high x)

-- what two output tables give there
unfoldable pub found : List ℕ → List ℕ → ℕ → ℕ
found by_i by_j x = bit_xor (slice_index by_i (place_i x)) (slice_index by_j (place_j x))

-- ---- the linear maps into the tower

-- a map of a byte by tables of both its halves
abbrev pub linear : List ℕ → List ℕ → ℕ → ℕ
linear by_low by_high x = bit_xor (slice_index by_low (low x)) (slice_index by_high (high x))

-- a byte, with a constant added, becomes an element of the cipher's state
abbrev pub EntersTower : List ℕ → List ℕ → ℕ → Type 0
EntersTower by_low by_high mask =
    (x : ℕ) → IsByte x → element (linear by_low by_high x) ≡ bit_xor x mask

-- a byte times a factor becomes one of the inverse cipher's state, without the constant 63
abbrev pub EntersInverse : List ℕ → List ℕ → ℕ → Type 0
EntersInverse by_low by_high factor =
    (x : ℕ) → IsByte x → linear_element (linear by_low by_high x) ≡ product factor x

-- the same with the constant
abbrev pub EntersMaskedInverse : List ℕ → List ℕ → ℕ → Type 0
EntersMaskedInverse by_low by_high factor =
    (x : ℕ) → IsByte x → affine_element (linear by_low by_high x) ≡ product factor x

-- ---- the output tables

-- a multiple of the S-box less its constant, in the tower: for MixColumns
abbrev pub FindsMultiple : List ℕ → List ℕ → ℕ → Type 0
FindsMultiple by_i by_j factor =
    (x : ℕ) → IsByte x → element (found by_i by_j x) ≡ product factor (bit_xor (s_box (element x)) 0x63)

-- the S-box less its constant, out of the tower: for the last round
abbrev pub FindsSBox : List ℕ → List ℕ → Type 0
FindsSBox by_i by_j = (x : ℕ) → IsByte x → found by_i by_j x ≡ bit_xor (s_box (element x)) 0x63

-- a multiple of the inverse, in the inverse cipher's basis: for InvMixColumns
abbrev pub FindsInverseMultiple : List ℕ → List ℕ → ℕ → Type 0
FindsInverseMultiple by_i by_j factor =
    (x : ℕ) → IsByte x → linear_element (found by_i by_j x) ≡ product factor (inverse (element x))

-- the inverse, out of the tower: for the last round of the inverse cipher
abbrev pub FindsInverse : List ℕ → List ℕ → Type 0
FindsInverse by_i by_j = (x : ℕ) → IsByte x → found by_i by_j x ≡ inverse (element x)
