-- The state in words: each of its four columns is a word, and the byte of row 0 is the most significant.
use Rattle.std.specs.Prelude.{ℕ, ◌+◌, ◌*◌, List, [], ◌∷◌, map, slice_index, bit_xor}
use Rattle.std.specs.Int.{w32, from_be_bytes, to_be_bytes}
use Rattle.fips197.specs.Field.{product}
use Rattle.fips197.specs.SBox.{s_box, inv_s_box}
use Rattle.fips197.specs.Rounds.{sum_of_four, mix_matrix, inv_mix_matrix}

-- the column whose byte in row r is f r
abbrev pub column : (ℕ → ℕ) → ℕ
column f = from_be_bytes w32 (f 0 ∷ f 1 ∷ f 2 ∷ f 3 ∷ [])

-- the byte of a column in row r
abbrev pub row : ℕ → ℕ → ℕ
row w r = slice_index (to_be_bytes w32 w) r

-- the byte of row r from column r of the four
abbrev pub diagonal : List ℕ → List ℕ
diagonal s = map (λ r. row (slice_index s r) r) (0 ∷ 1 ∷ 2 ∷ 3 ∷ [])

-- the matrix m times the column with x in row 0 and 0 in the others
abbrev pub spread : List ℕ → ℕ → ℕ
spread m x = column (λ r. product (slice_index m (4 * r)) x)

-- the matrix m times the column whose byte in row k is f k
abbrev pub mixed : List ℕ → (ℕ → ℕ) → ℕ
mixed m f = column (λ r. sum_of_four (λ k. product (slice_index m (4 * r + k)) (f k)))

-- a column after a round, from the columns in which ShiftRows finds its rows: SubBytes, MixColumns, AddRoundKey
abbrev pub round_column : List ℕ → ℕ → ℕ
round_column s key = bit_xor (mixed mix_matrix (λ r. s_box (row (slice_index s r) r))) key

-- a column after the last round, which has no MixColumns
abbrev pub last_column : List ℕ → ℕ → ℕ
last_column s key = bit_xor (column (λ r. s_box (row (slice_index s r) r))) key

-- a column after a round of the inverse cipher: InvSubBytes, AddRoundKey, InvMixColumns
abbrev pub inv_round_column : List ℕ → ℕ → ℕ
inv_round_column s key =
    mixed inv_mix_matrix (λ r. bit_xor (inv_s_box (row (slice_index s r) r)) (row key r))

-- a column after the last round of the inverse cipher, which has no InvMixColumns
abbrev pub inv_last_column : List ℕ → ℕ → ℕ
inv_last_column s key = bit_xor (column (λ r. inv_s_box (row (slice_index s r) r))) key
