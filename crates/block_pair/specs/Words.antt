-- Bytes, words and blocks as numbers and lists (RFC 3394, sections 2.1 and 2.2).
use Rattle.std.specs.Prelude.{◌≡◌, ℕ, ◌<◌, ◌^◌, List, length}
use Rattle.std.specs.List.{AllByRecursion}

-- a byte is a number from 0 to 255
abbrev pub IsByte : ℕ → Type 0
IsByte b = b < 256

-- a word has 64 bits: eight bytes read as a number, the most significant byte first
abbrev pub IsWord : ℕ → Type 0
IsWord w = w < 2 ^ 64

-- a block is two words, 16 bytes
pub record IsBlock (b : List ℕ) : Type 0 where
  pub sixteen : length b ≡ 16
  pub bytes : AllByRecursion IsByte b
