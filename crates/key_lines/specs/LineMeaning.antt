-- What a line denotes: one text of hex digits or of base64, with blanks only at the ends of the line.
use Rattle.std.specs.Prelude.{◌≡◌, ◌≢◌, ℕ, ◌-◌, ◌==◌, ◌||◌, Bool, List, [], ◌∷◌, ◌++◌, length, take, drop, All, Result, Ok, Err}
use Rattle.std.specs.List.{prefix_len, suffix_len}
use Rattle.key_files.specs.Base64Text.{base64_line, base64_meaning, symbol_text_meaning}
use Rattle.key_files.specs.Decoding.{fault_behind}
use Rattle.key_files.specs.HexText.{IsBytes, hex_line}
use Rattle.key_files.specs.FileMeaning.{digit_text_meaning, file_meaning, hex_meaning}
use Rattle.key_files.specs.declared.base64_text.Alphabet.TheVariants.{Standard, UrlSafe}
use Rattle.key_files.specs.declared.fault.FileFault.{FileFault}
use Rattle.key_lines.specs.declared.text.TextNotation.{TextNotation}
use Rattle.key_lines.specs.declared.text.TextNotation.TheVariants.{Hex, Base64, Base64Url}

-- blanks are space, tab and CR
abbrev pub is_blank : ℕ → Bool
is_blank c = c == 32 || (c == 9 || c == 13)

-- a line without the blanks that it begins with
abbrev pub behind_blanks : List ℕ → List ℕ
behind_blanks line = drop (prefix_len is_blank line) line

-- the text of a line: the bytes between the blanks at its ends
abbrev pub text_of : List ℕ → List ℕ
text_of line = take (length (behind_blanks line) - suffix_len is_blank (behind_blanks line)) (behind_blanks line)

-- what a text without blanks denotes in a notation
abbrev pub text_meaning : TextNotation → List ℕ → Result (List ℕ) FileFault
text_meaning Hex text = digit_text_meaning text
text_meaning Base64 text = symbol_text_meaning text
text_meaning Base64Url text = symbol_text_meaning text

-- the meaning of a text behind `n` bytes: the place of a fault counts these too
abbrev pub meaning_behind : ℕ → Result (List ℕ) FileFault → Result (List ℕ) FileFault
meaning_behind n (Ok bytes) = Ok bytes
meaning_behind n (Err fault) = Err (fault_behind n fault)

-- A line denotes what its text without blanks denotes. The place of a fault is counted from the front of the line.
unfoldable pub blank_ended_meaning : TextNotation → List ℕ → Result (List ℕ) FileFault
blank_ended_meaning notation line = meaning_behind (prefix_len is_blank line) (text_meaning notation (text_of line))

-- the most bytes that a line may have
abbrev pub line_limit : ℕ
line_limit = 4194304

-- what a line denotes, within the limit
abbrev pub line_meaning : TextNotation → List ℕ → Result (List ℕ) FileFault
line_meaning notation line = file_meaning (blank_ended_meaning notation) line_limit line

-- what the same bytes denote as a file
abbrev pub text_file_meaning : TextNotation → List ℕ → Result (List ℕ) FileFault
text_file_meaning Hex file = hex_meaning file
text_file_meaning Base64 file = base64_meaning file
text_file_meaning Base64Url file = base64_meaning file

-- what is printed for bytes
abbrev pub printed_line : TextNotation → List ℕ → List ℕ
printed_line Hex bytes = hex_line bytes
printed_line Base64 bytes = base64_line Standard bytes
printed_line Base64Url bytes = base64_line UrlSafe bytes

-- A law: a line that denotes bytes denotes them as a file, too.
abbrev pub LinesAreFiles : TextNotation → Type 0
LinesAreFiles notation = (line bytes : List ℕ) → IsBytes line → IsBytes bytes → blank_ended_meaning notation line ≡ Ok bytes
    → text_file_meaning notation line ≡ Ok bytes

-- A law: what is printed for bytes is one line, with one LF, at its end. The line denotes the bytes.
abbrev pub PrintsBack : TextNotation → Type 0
PrintsBack notation = (bytes : List ℕ) → IsBytes bytes → (line : List ℕ)
    × (printed_line notation bytes ≡ line ++ 10 ∷ []) × All (λ byte. byte ≢ 10) line × (blank_ended_meaning notation line ≡ Ok bytes)
