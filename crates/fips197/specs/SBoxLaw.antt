-- The laws of the S-box: it takes bytes to bytes, and the inverse S-box undoes it in both orders.
use Rattle.std.proofs.Common.{◌≡◌, ◌↔◌, ℕ, List, Bool, true, ◌==◌, nat_lt, get_or, refl, sym, ap, ◌∙◌, eqb-true, ltb-true, zero-add}
use Rattle.std.specs.List.{position_or_len}
use Rattle.std.proofs.lemmas.List.FromFn.{get_or-map-range_with_len}
use Rattle.block_pair.specs.Words.{IsByte}
use Rattle.fips197.specs.Field.{polynomial_product, remainder, product, inverse}
use Rattle.fips197.specs.SBox.{number_with_bits, s_box, s_boxes, inv_s_box}
use Rattle.fips197.specs.EveryByte.{passes_below, passes_at}

-- the place of the first y in a table
abbrev pub place_of : ℕ → List ℕ → ℕ
place_of y table = position_or_len (λ s. s == y) table

-- an entry of a table of 256 bytes
abbrev pub entry : List ℕ → ℕ → ℕ
entry table x = get_or table x 0

-- the tests of a table: each entry is a byte; each byte has a place, which is a byte, and its entry there is the byte;
-- the place of each entry is the index of the entry
abbrev pub bytes_test : List ℕ → Bool
bytes_test table = passes_below 256 (λ x. nat_lt (entry table x) 256)

abbrev pub places_test : List ℕ → Bool
places_test table = passes_below 256 (λ y. nat_lt (place_of y table) 256)

abbrev pub found_test : List ℕ → Bool
found_test table = passes_below 256 (λ y. entry table (place_of y table) == y)

abbrev pub undone_test : List ℕ → Bool
undone_test table = passes_below 256 (λ x. place_of (entry table x) table == x)

s_boxes_bytes : bytes_test s_boxes ≡ true
unfolding s_boxes s_box number_with_bits inverse product remainder polynomial_product
s_boxes_bytes = refl

s_boxes_places : places_test s_boxes ≡ true
unfolding s_boxes s_box number_with_bits inverse product remainder polynomial_product
s_boxes_places = refl

s_boxes_found : found_test s_boxes ≡ true
unfolding s_boxes s_box number_with_bits inverse product remainder polynomial_product
s_boxes_found = refl

s_boxes_undone : undone_test s_boxes ≡ true
unfolding s_boxes s_box number_with_bits inverse product remainder polynomial_product
s_boxes_undone = refl

-- the table's entry at x is the S-box of x
pub s_boxes_entry : (x : ℕ) → IsByte x → entry s_boxes x ≡ s_box x
unfolding s_boxes
s_boxes_entry x h = get_or-map-range_with_len s_box 0 256 x x 0 h (zero-add x)

pub s_box_byte : (x : ℕ) → IsByte x → IsByte (s_box x)
s_box_byte x h =
    rw (← s_boxes_entry x h) (ltb-true _ _ (passes_at 256 (λ x. nat_lt (entry s_boxes x) 256) x h s_boxes_bytes))

pub inv_s_box_byte : (y : ℕ) → IsByte y → IsByte (inv_s_box y)
unfolding inv_s_box
inv_s_box_byte y h = ltb-true _ _ (passes_at 256 (λ y. nat_lt (place_of y s_boxes) 256) y h s_boxes_places)

pub s_box-inv_s_box : (y : ℕ) → IsByte y → s_box (inv_s_box y) ≡ y
unfolding inv_s_box
s_box-inv_s_box y h =
    sym (s_boxes_entry (inv_s_box y) (inv_s_box_byte y h))
    ∙ eqb-true _ _ (passes_at 256 (λ y. entry s_boxes (place_of y s_boxes) == y) y h s_boxes_found)

pub inv_s_box-s_box : (x : ℕ) → IsByte x → inv_s_box (s_box x) ≡ x
unfolding inv_s_box
inv_s_box-s_box x h =
    ap (λ (y : ℕ). place_of y s_boxes) (sym (s_boxes_entry x h))
    ∙ eqb-true _ _ (passes_at 256 (λ x. place_of (entry s_boxes x) s_boxes == x) x h s_boxes_undone)

-- each is the other's converse
pub inv_s_box_converse : (x y : ℕ) → IsByte x → IsByte y → (x ≡ inv_s_box y) ↔ (s_box x ≡ y)
inv_s_box_converse x y hx hy = (
  λ is. ap s_box is ∙ s_box-inv_s_box y hy,
  λ at. sym (inv_s_box-s_box x hx) ∙ ap inv_s_box at,
)
