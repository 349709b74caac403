-- The tables are right at every byte: the S-box, the inverse S-box, and the columns that MixColumns makes of the one and InvMixColumns of a byte.
-- For each table the checker computes one test over the whole of it, and one lemma says the rule at an entry.
use Rattle.std.proofs.Common.{◌≡◌, ℕ, List, map, get_or, refl, ap, ◌∙◌, zero-add}
use Rattle.std.specs.List.{range_with_len}
use Rattle.std.proofs.lemmas.List.FromFn.{get_or-map-range_with_len}
use Rattle.block_pair.specs.Words.{IsByte}
use Rattle.aes_block.specs.declared.s_box.TheConstants.{S_BOX, INV_S_BOX}
use Rattle.aes_block.specs.declared.word_tables.TheConstants.{INV_MIXED, MIXED_S_BOX}
use Rattle.fips197.specs.Field.{polynomial_product, remainder, product, inverse}
use Rattle.fips197.specs.SBox.{number_with_bits, s_box, s_boxes, inv_s_box}
use Rattle.fips197.specs.SBoxLaw.{place_of, s_boxes_entry}
use Rattle.fips197.specs.Rounds.{inv_mix_matrix, mix_matrix}
use Rattle.aes_block.specs.Columns.{spread}

s_box_table : S_BOX ≡ s_boxes
unfolding s_boxes s_box number_with_bits inverse product remainder polynomial_product
s_box_table = refl

pub s_box_entry : (x : ℕ) → IsByte x → get_or S_BOX x 0 ≡ s_box x
s_box_entry x h = ap (λ (t : List ℕ). get_or t x 0) s_box_table ∙ s_boxes_entry x h

-- the place of each byte in a table
places : List ℕ → List ℕ
places table = map (λ y. place_of y table) (range_with_len 0 256)

inv_s_box_table : INV_S_BOX ≡ places s_boxes
unfolding places s_boxes s_box number_with_bits inverse product remainder polynomial_product
inv_s_box_table = refl

pub inv_s_box_entry : (y : ℕ) → IsByte y → get_or INV_S_BOX y 0 ≡ inv_s_box y
unfolding places inv_s_box
inv_s_box_entry y h =
    ap (λ (t : List ℕ). get_or t y 0) inv_s_box_table
    ∙ get_or-map-range_with_len (λ y. place_of y s_boxes) 0 256 y y 0 h (zero-add y)

-- a column for each byte
columns : (ℕ → ℕ) → List ℕ
columns f = map f (range_with_len 0 256)

columns_entry : (f : ℕ → ℕ) (table : List ℕ) (x : ℕ) → table ≡ columns f → IsByte x → get_or table x 0 ≡ f x
unfolding columns
columns_entry f table x e h = ap (λ (t : List ℕ). get_or t x 0) e ∙ get_or-map-range_with_len f 0 256 x x 0 h (zero-add x)

mixed_s_box_table : MIXED_S_BOX ≡ columns (λ x. spread mix_matrix (s_box x))
unfolding columns s_box number_with_bits inverse product remainder polynomial_product
mixed_s_box_table = refl

pub mixed_s_box_entry : (x : ℕ) → IsByte x → get_or MIXED_S_BOX x 0 ≡ spread mix_matrix (s_box x)
mixed_s_box_entry x h = columns_entry (λ x. spread mix_matrix (s_box x)) MIXED_S_BOX x mixed_s_box_table h

inv_mixed_table : INV_MIXED ≡ columns (spread inv_mix_matrix)
unfolding columns product remainder polynomial_product
inv_mixed_table = refl

pub inv_mixed_entry : (x : ℕ) → IsByte x → get_or INV_MIXED x 0 ≡ spread inv_mix_matrix x
inv_mixed_entry x h = columns_entry (spread inv_mix_matrix) INV_MIXED x inv_mixed_table h
