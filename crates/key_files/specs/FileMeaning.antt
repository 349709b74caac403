-- What the bytes of a file denote.
use Rattle.std.specs.Prelude.{ℕ, ◌%◌, ◌==◌, nat_lt, List, length, Option, Some, None, Result, Ok, Err, if◌then◌else◌}
use Rattle.key_files.specs.declared.fault.FileFault.{FileFault}
use Rattle.key_files.specs.declared.fault.FileFault.TheVariants.{TooLong, BadDigit, OddDigits}
use Rattle.key_files.specs.HexText.{first_bad, digits_of, paired}
use Rattle.key_files.specs.declared.hex_text.Blanks.TheVariants.{Allowed, Refused}

-- a raw file denotes its bytes
abbrev pub raw_meaning : List ℕ → Result (List ℕ) FileFault
raw_meaning file = Ok file

-- what a text with these digits denotes, where its first bad byte is known
abbrev pub digits_meaning : Option ℕ → List ℕ → Result (List ℕ) FileFault
digits_meaning (Some at) digits = Err (BadDigit at)
digits_meaning None digits = if length digits % 2 == 1 then Err OddDigits else Ok (paired digits)

-- a hex text denotes the bytes that its digits spell: it has no bad byte, and an even number of digits
unfoldable pub hex_meaning : List ℕ → Result (List ℕ) FileFault
hex_meaning text = digits_meaning (first_bad Allowed text) (digits_of text)

-- the same for a text of digits only
unfoldable pub digit_text_meaning : List ℕ → Result (List ℕ) FileFault
digit_text_meaning text = digits_meaning (first_bad Refused text) text

-- what a file denotes in a notation, if it may have `limit` bytes
unfoldable pub file_meaning : (List ℕ → Result (List ℕ) FileFault) → ℕ → List ℕ → Result (List ℕ) FileFault
file_meaning meaning limit file = if nat_lt limit (length file) then Err TooLong else meaning file
