-- Base64 (RFC 4648, sections 4 and 5): which texts encode which bytes, and what is wrong with one that encodes none.
use Rattle.std.specs.Prelude.{◌≡◌, ℕ, ◌+◌, ◌==◌, ◌||◌, ◌&&◌, not, if◌then◌else◌, Bool, true, false, List, [], ◌∷◌, ◌++◌, drop, length, Option, Some, None, Result, Ok, Err}
use Rattle.std.specs.Prelude.{slice_index, filter, position, nat_le, nat_lt}
use Rattle.std.specs.List.{prefix_len}
use Rattle.base64.specs.Engines.{standard, standard_no_pad, url_safe, url_safe_no_pad}
use Rattle.base64.specs.GeneralPurpose.{decode_of}
pub use Rattle.base64.specs.GeneralPurpose.{IsBytes, encode_of}
use Rattle.base64.specs.declared.decode.DecodeError.{DecodeError}
use Rattle.base64.specs.declared.decode.DecodeError.TheVariants.{InvalidLastSymbol}
use Rattle.base64.specs.declared.engine.general_purpose.GeneralPurpose.{GeneralPurpose}
use Rattle.key_files.specs.HexText.{is_allowed_blank, is_skipped}
use Rattle.key_files.specs.declared.base64_text.Alphabet.{Alphabet}
use Rattle.key_files.specs.declared.base64_text.Alphabet.TheVariants.{Standard, UrlSafe}
use Rattle.key_files.specs.declared.hex_text.Blanks.{Blanks}
use Rattle.key_files.specs.declared.hex_text.Blanks.TheVariants.{Allowed, Refused}
use Rattle.key_files.specs.declared.fault.FileFault.{FileFault}
use Rattle.key_files.specs.declared.fault.FileFault.TheVariants.{BadCharacter, BehindPadding, BadBase64Length, TrailingBits}

-- the characters that only section 4 has, `+` and `/`
abbrev pub is_standard : ℕ → Bool
is_standard c = c == 43 || c == 47

-- the characters that only section 5 has, `-` and `_`
abbrev pub is_url_safe : ℕ → Bool
is_url_safe c = c == 45 || c == 95

-- the characters of both sections: letters and digits
abbrev pub is_shared : ℕ → Bool
is_shared c = (nat_le 65 c && nat_le c 90) || ((nat_le 97 c && nat_le c 122) || (nat_le 48 c && nat_le c 57))

-- the padding, `=`
abbrev pub is_padding : ℕ → Bool
is_padding c = c == 61

-- the first character that only one alphabet has decides which it is
abbrev pub alphabet_at : List ℕ → Option ℕ → Alphabet
alphabet_at text (Some at) = if is_url_safe (slice_index text at) then UrlSafe else Standard
alphabet_at text None = Standard

abbrev pub first_of_one : List ℕ → Option ℕ
first_of_one text = position (λ c. is_standard c || is_url_safe c) text

abbrev pub alphabet_of : List ℕ → Alphabet
alphabet_of text = alphabet_at text (first_of_one text)

-- a character of this alphabet, and not of the other one
abbrev pub is_only_in : Alphabet → ℕ → Bool
is_only_in Standard c = is_standard c
is_only_in UrlSafe c = is_url_safe c

-- a character of this alphabet, or padding
abbrev pub is_base64 : Alphabet → ℕ → Bool
is_base64 alphabet c = is_padding c || (is_shared c || is_only_in alphabet c)

-- a character that is allowed in such a text
abbrev pub is_allowed : Blanks → Alphabet → ℕ → Bool
is_allowed blanks alphabet c = is_base64 alphabet c || is_allowed_blank blanks c

-- the place, over all bytes of the text, of the first character that is not allowed in it
abbrev pub first_foreign : Blanks → List ℕ → Option ℕ
first_foreign blanks text = position (λ c. not (is_allowed blanks (alphabet_of text) c)) text

-- the number of bytes before the first padding
abbrev pub before_padding : List ℕ → ℕ
before_padding text = prefix_len (λ c. not (is_padding c)) text

-- the place of the first character that is no padding
abbrev pub first_no_padding : Blanks → List ℕ → Option ℕ
first_no_padding blanks text = position (λ c. not (is_padding c || is_allowed_blank blanks c)) text

-- the text without what is skipped
abbrev pub kept : List ℕ → List ℕ
kept text = filter (λ c. not (is_skipped c)) text

-- the encoding of a text: by its alphabet, with padding if it has some
abbrev pub encoding : Alphabet → (padded : Bool) → GeneralPurpose
encoding Standard false = standard_no_pad
encoding Standard true = standard
encoding UrlSafe false = url_safe_no_pad
encoding UrlSafe true = url_safe

abbrev pub has_padding : List ℕ → Bool
has_padding text = nat_lt (before_padding text) (length text)

abbrev pub encoding_of : List ℕ → GeneralPurpose
encoding_of text = encoding (alphabet_of text) (has_padding text)

-- the fault of a text whose characters are all allowed, and which is not an encoding
abbrev pub base64_fault_of : DecodeError → FileFault
base64_fault_of (InvalidLastSymbol at symbol value) = TrailingBits
base64_fault_of error = BadBase64Length

abbrev pub decoded_meaning : Result (List ℕ) DecodeError → Result (List ℕ) FileFault
decoded_meaning (Ok bytes) = Ok bytes
decoded_meaning (Err error) = Err (base64_fault_of error)

-- what such a text denotes: the bytes that it encodes
abbrev pub symbols_meaning : List ℕ → Result (List ℕ) FileFault
symbols_meaning text = decoded_meaning (decode_of (encoding_of text) text)

-- why a text denotes no bytes: the place of a character that is not allowed in it, or that follows its padding
abbrev pub place_fault : Option ℕ → ℕ → Option ℕ → Option FileFault
place_fault (Some at) before behind = Some (BadCharacter at)
place_fault None before (Some at) = Some (BehindPadding (before + at))
place_fault None before None = None

abbrev pub misplaced : Blanks → List ℕ → Option FileFault
misplaced blanks text =
    place_fault (first_foreign blanks text) (before_padding text) (first_no_padding blanks (drop (before_padding text) text))

-- the same for a text without blanks
abbrev pub misplaced_symbol : List ℕ → Option FileFault
misplaced_symbol text = misplaced Refused text

abbrev pub placed_meaning : Option FileFault → List ℕ → Result (List ℕ) FileFault
placed_meaning (Some fault) text = Err fault
placed_meaning None text = symbols_meaning text

-- A text denotes the bytes that it encodes, in either alphabet, with its padding complete or omitted. Blanks are
-- allowed anywhere in it.
unfoldable pub base64_meaning : List ℕ → Result (List ℕ) FileFault
base64_meaning text = placed_meaning (misplaced Allowed text) (kept text)

-- the same for a text without blanks
unfoldable pub symbol_text_meaning : List ℕ → Result (List ℕ) FileFault
symbol_text_meaning text = placed_meaning (misplaced_symbol text) text

-- The text is an encoding of the bytes (RFC 4648): in one of the two alphabets, with padding or without it.
abbrev pub IsBase64Of : List ℕ → List ℕ → Type 0
IsBase64Of text bytes = (alphabet : Alphabet) × (padded : Bool) × (text ≡ encode_of (encoding alphabet padded) bytes)

-- A law: a file denotes exactly the bytes that its text encodes.
abbrev pub FilesEncode : Type 0
FilesEncode = (file bytes : List ℕ) → (IsBytes bytes → IsBase64Of (kept file) bytes → base64_meaning file ≡ Ok bytes)
    × (IsBytes file → base64_meaning file ≡ Ok bytes → IsBase64Of (kept file) bytes)

-- the encoding of output: section 4 with padding, or section 5 without it
abbrev pub output_encoding : Alphabet → GeneralPurpose
output_encoding Standard = standard
output_encoding UrlSafe = url_safe_no_pad

-- base64 output: the encoding of the bytes, and then LF
abbrev pub base64_line : Alphabet → List ℕ → List ℕ
base64_line alphabet bytes = encode_of (output_encoding alphabet) bytes ++ 10 ∷ []
