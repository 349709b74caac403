-- The hex notation of bytes: two digits a byte, of either case, with spaces, tabs and line ends anywhere.
use Rattle.std.specs.Prelude.{ℕ, ◌+◌, ◌*◌, ◌==◌, ◌||◌, not, Bool, false, List, [], ◌∷◌, ◌++◌, Option, filter, position}
use Rattle.std.specs.Char.{digit_value, is_digit}
use Rattle.key_files.specs.declared.hex_text.Blanks.{Blanks}
use Rattle.key_files.specs.declared.hex_text.Blanks.TheVariants.{Allowed, Refused}
pub use Rattle.hex.specs.Hex.{IsBytes, encode_lower}

-- the digits are `0` to `9`, `a` to `f` and `A` to `F`
abbrev pub is_hex_digit : ℕ → Bool
is_hex_digit c = is_digit c 16

-- space, tab, CR and LF are allowed anywhere, and are skipped
abbrev pub is_skipped : ℕ → Bool
is_skipped c = (c == 32 || c == 9) || (c == 13 || c == 10)

-- the same if blanks are allowed
abbrev pub is_allowed_blank : Blanks → ℕ → Bool
is_allowed_blank Allowed c = is_skipped c
is_allowed_blank Refused c = false

-- the offset, over all bytes of the text, of the first that is neither a digit nor an allowed blank
abbrev pub first_bad : Blanks → List ℕ → Option ℕ
first_bad blanks text = position (λ c. not (is_allowed_blank blanks c || is_hex_digit c)) text

-- the digits of the text, in order
abbrev pub digits_of : List ℕ → List ℕ
digits_of text = filter is_hex_digit text

-- the bytes that digits spell in pairs, the high half of each byte first
unfoldable pub paired : List ℕ → List ℕ
paired [] = []
paired (digit ∷ []) = []
paired (high ∷ low ∷ rest) = (16 * digit_value high + digit_value low) ∷ paired rest

-- hex output: the digits of the bytes in lower case, then LF
abbrev pub hex_line : List ℕ → List ℕ
hex_line bytes = encode_lower bytes ++ 10 ∷ []
