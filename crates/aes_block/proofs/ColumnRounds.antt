-- A column after each kind of round, byte by byte.
-- The sum of the turned columns of the word tables is the matrix times the column. Adding the key adds it byte by byte.
use Rattle.std.proofs.Common.{◌≡◌, ℕ, ◌+◌, ◌*◌, ◌^◌, ◌<◌, bit_xor, w32, List, [], ◌∷◌, refl, ap, ◌∙◌}
use Rattle.std.specs.Int.{to_be_bytes}
use Rattle.std.specs.List.{slice_index}
use Rattle.block_pair.specs.Words.{IsByte}
use Rattle.fips197.specs.Field.{product}
use Rattle.fips197.specs.FieldLaw.{product_byte}
use Rattle.fips197.specs.SBox.{s_box, inv_s_box}
use Rattle.fips197.specs.SBoxLaw.{s_box_byte, inv_s_box_byte}
use Rattle.fips197.specs.StateLaw.{all_bytes, byte_at}
use Rattle.fips197.specs.MixColumnsLaw.{sum_of_four_byte, xor_byte}
use Rattle.fips197.specs.Rounds.{sum_of_four, mix_matrix, inv_mix_matrix}
use Rattle.aes_block.specs.Columns.{row, spread, mixed, round_column, last_column, inv_round_column, inv_last_column}
use Rattle.aes_block.proofs.ColumnWords.{turned, spread_sum, four, column_bytes, added_bytes, row_byte}

-- four columns of a state, one for each row
abbrev pub from : List ℕ → ℕ → ℕ → ℕ → ℕ → List ℕ
from s a b c d = slice_index s a ∷ slice_index s b ∷ slice_index s c ∷ slice_index s d ∷ []

-- the bytes that a column is made of, through the S-box and through its inverse
abbrev pub substituted : List ℕ → ℕ → ℕ
substituted s r = s_box (row (slice_index s r) r)

abbrev pub inv_substituted : List ℕ → ℕ → ℕ
inv_substituted s r = inv_s_box (row (slice_index s r) r)

pub substituted_byte : (s : List ℕ) (r : ℕ) → IsByte (substituted s r)
substituted_byte s r = s_box_byte _ (row_byte (slice_index s r) r)

pub inv_substituted_byte : (s : List ℕ) (r : ℕ) → IsByte (inv_substituted s r)
inv_substituted_byte s r = inv_s_box_byte _ (row_byte (slice_index s r) r)

-- the byte that row r of a matrix makes of a column
abbrev pub mixed_row : List ℕ → (ℕ → ℕ) → ℕ → ℕ
mixed_row m f r = sum_of_four (λ k. product (slice_index m (4 * r + k)) (f k))

mixed_row_byte : (f : ℕ → ℕ) → ((k : ℕ) → IsByte (f k)) → (r : ℕ) → IsByte (mixed_row mix_matrix f r)
mixed_row_byte f h r = sum_of_four_byte _ (λ k. product_byte _ _ (byte_at mix_matrix (4 * r + k) (all_bytes mix_matrix refl)) (h k))

inv_mixed_row_byte : (f : ℕ → ℕ) → ((k : ℕ) → IsByte (f k)) → (r : ℕ) → IsByte (mixed_row inv_mix_matrix f r)
inv_mixed_row_byte f h r = sum_of_four_byte _ (λ k. product_byte _ _ (byte_at inv_mix_matrix (4 * r + k) (all_bytes inv_mix_matrix refl)) (h k))

-- what the table look-ups of a column come to: the matrix times the column
pub looked_up : (f : ℕ → ℕ) → ((k : ℕ) → IsByte (f k)) → turned (λ k. spread mix_matrix (f k)) ≡ mixed mix_matrix f
looked_up f h = spread_sum mix_matrix f (all_bytes mix_matrix refl) h

pub inv_looked_up : (f : ℕ → ℕ) → ((k : ℕ) → IsByte (f k)) → turned (λ k. spread inv_mix_matrix (f k)) ≡ mixed inv_mix_matrix f
inv_looked_up f h = spread_sum inv_mix_matrix f (all_bytes inv_mix_matrix refl) h

-- the bytes of a column w after each kind of round
pub round_bytes : (s : List ℕ) (key w : ℕ) → key < 2 ^ 32 → w ≡ round_column s key
    → to_be_bytes w32 w ≡ four (λ r. bit_xor (mixed_row mix_matrix (substituted s) r) (row key r))
round_bytes s key w fits e =
    ap (to_be_bytes w32) e ∙ added_bytes (mixed_row mix_matrix (substituted s)) key (mixed_row_byte (substituted s) (substituted_byte s)) fits

pub last_bytes : (s : List ℕ) (key w : ℕ) → key < 2 ^ 32 → w ≡ last_column s key
    → to_be_bytes w32 w ≡ four (λ r. bit_xor (substituted s r) (row key r))
last_bytes s key w fits e = ap (to_be_bytes w32) e ∙ added_bytes (substituted s) key (substituted_byte s) fits

-- the bytes that InvMixColumns takes
abbrev pub unmixed : List ℕ → ℕ → ℕ → ℕ
unmixed s key r = bit_xor (inv_substituted s r) (row key r)

pub unmixed_byte : (s : List ℕ) (key r : ℕ) → IsByte (unmixed s key r)
unmixed_byte s key r = xor_byte _ _ (inv_substituted_byte s r) (row_byte key r)

pub inv_round_bytes : (s : List ℕ) (key w : ℕ) → w ≡ inv_round_column s key → to_be_bytes w32 w ≡ four (mixed_row inv_mix_matrix (unmixed s key))
inv_round_bytes s key w e =
    ap (to_be_bytes w32) e ∙ column_bytes (mixed_row inv_mix_matrix (unmixed s key)) (inv_mixed_row_byte (unmixed s key) (unmixed_byte s key))

pub inv_last_bytes : (s : List ℕ) (key w : ℕ) → key < 2 ^ 32 → w ≡ inv_last_column s key → to_be_bytes w32 w ≡ four (unmixed s key)
inv_last_bytes s key w fits e = ap (to_be_bytes w32) e ∙ added_bytes (inv_substituted s) key (inv_substituted_byte s) fits
