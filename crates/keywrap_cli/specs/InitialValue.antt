-- What the text of an initial value denotes.
use Rattle.std.specs.Prelude.{◌≡◌, ℕ, List, length}
use Rattle.std.specs.Str.Parse.{AllDigits, digits_value}

-- 16 hex digits, of either case, and nothing else
pub record IsSixteenDigits (text : List ℕ) : Type 0 where
  pub sixteen : length text ≡ 16
  pub digits : AllDigits 16 text

-- 16 hex digits that write this word: its eight bytes, the most significant first
pub record DenotesIv (text : List ℕ) (iv : ℕ) : Type 0 where
  pub digits : IsSixteenDigits text
  pub value : iv ≡ digits_value 16 text
