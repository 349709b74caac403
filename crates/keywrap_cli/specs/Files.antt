-- What a file denotes in a notation, and how bytes are printed.
use Rattle.std.specs.Prelude.{⊤, ℕ, List, Result}
use Rattle.key_files.specs.Base64Text.{base64_line, base64_meaning}
use Rattle.key_files.specs.HexText.{hex_line}
use Rattle.key_files.specs.FileMeaning.{raw_meaning, hex_meaning}
use Rattle.key_files.specs.Writing.{IsLine}
use Rattle.key_files.specs.declared.base64_text.Alphabet.TheVariants.{Standard, UrlSafe}
use Rattle.key_files.specs.declared.fault.FileFault.{FileFault}
use Rattle.key_lines.specs.declared.text.TextNotation.{TextNotation}
use Rattle.key_lines.specs.declared.text.TextNotation.TheVariants as texts
use Rattle.keywrap_cli.specs.declared.files.Notation.{Notation}
use Rattle.keywrap_cli.specs.declared.files.Notation.TheVariants.{Raw, Hex, Base64, Base64Url}
use Rattle.keywrap_cli.specs.declared.what.How.{How}
use Rattle.keywrap_cli.specs.declared.what.How.TheVariants.{Whole, Lines}

abbrev pub meaning_in : Notation → List ℕ → Result (List ℕ) FileFault
meaning_in Raw file = raw_meaning file
meaning_in Hex file = hex_meaning file
meaning_in Base64 file = base64_meaning file
meaning_in Base64Url file = base64_meaning file

-- bytes as they are written in a notation
abbrev pub printed : Notation → List ℕ → List ℕ
printed Raw bytes = bytes
printed Hex bytes = hex_line bytes
printed Base64 bytes = base64_line Standard bytes
printed Base64Url bytes = base64_line UrlSafe bytes

-- a text in a notation of lines is one line
abbrev pub IsOneLine : Notation → List ℕ → Type 0
IsOneLine Raw text = ⊤
IsOneLine Hex text = IsLine text
IsOneLine Base64 text = IsLine text
IsOneLine Base64Url text = IsLine text

-- the notation of files for a notation of lines
abbrev pub line_notation : TextNotation → Notation
line_notation texts.Hex = Hex
line_notation texts.Base64 = Base64
line_notation texts.Base64Url = Base64Url

-- the notation of the input of a command
abbrev pub input_notation : How → Notation
input_notation (Whole notation) = notation
input_notation (Lines options) = line_notation options.notation
