-- The transformations of a round (FIPS 197, section 5.1) and their inverses (section 5.3), each on a state.
use Rattle.std.specs.Prelude.{ℕ, ◌+◌, ◌-◌, ◌*◌, ◌%◌, List, [], ◌∷◌, slice_index, bit_xor}
use Rattle.fips197.specs.Field.{product}
use Rattle.fips197.specs.SBox.{s_box, inv_s_box}
use Rattle.fips197.specs.State.{entry, state}

-- SubBytes (5.1.1): the S-box on each byte
unfoldable pub sub_bytes : List ℕ → List ℕ
sub_bytes s = state (λ r c. s_box (entry s r c))

-- InvSubBytes (5.3.2): the inverse S-box on each byte
unfoldable pub inv_sub_bytes : List ℕ → List ℕ
inv_sub_bytes s = state (λ r c. inv_s_box (entry s r c))

-- ShiftRows (5.1.2): row r turns left by r places
unfoldable pub shift_rows : List ℕ → List ℕ
shift_rows s = state (λ r c. entry s r ((c + r) % 4))

-- InvShiftRows (5.3.1): row r turns right by r places
unfoldable pub inv_shift_rows : List ℕ → List ℕ
inv_shift_rows s = state (λ r c. entry s r ((c + (4 - r)) % 4))

-- the sum in the field of the terms 0 to 3
abbrev pub sum_of_four : (ℕ → ℕ) → ℕ
sum_of_four f = bit_xor (bit_xor (bit_xor (f 0) (f 1)) (f 2)) (f 3)

-- each column multiplied by the matrix m of four rows and four columns, which is written row after row
unfoldable pub multiplied : List ℕ → List ℕ → List ℕ
multiplied m s = state (λ r c. sum_of_four (λ k. product (slice_index m (4 * r + k)) (entry s k c)))

-- the matrix of MixColumns (5.1.3)
abbrev pub mix_matrix : List ℕ
mix_matrix = 2 ∷ 3 ∷ 1 ∷ 1 ∷ 1 ∷ 2 ∷ 3 ∷ 1 ∷ 1 ∷ 1 ∷ 2 ∷ 3 ∷ 3 ∷ 1 ∷ 1 ∷ 2 ∷ []

-- the matrix of InvMixColumns (5.3.3)
abbrev pub inv_mix_matrix : List ℕ
inv_mix_matrix = 14 ∷ 11 ∷ 13 ∷ 9 ∷ 9 ∷ 14 ∷ 11 ∷ 13 ∷ 13 ∷ 9 ∷ 14 ∷ 11 ∷ 11 ∷ 13 ∷ 9 ∷ 14 ∷ []

-- MixColumns (5.1.3)
abbrev pub mix_columns : List ℕ → List ℕ
mix_columns = multiplied mix_matrix

-- InvMixColumns (5.3.3)
abbrev pub inv_mix_columns : List ℕ → List ℕ
inv_mix_columns = multiplied inv_mix_matrix

-- AddRoundKey (5.1.4), its own inverse: the round key k is added, column by column
unfoldable pub add_round_key : List ℕ → List ℕ → List ℕ
add_round_key k s = state (λ r c. bit_xor (entry s r c) (entry k r c))
