-- The initial value that both ends agreed on, as the bytes that a caller gives.
use Rattle.std.specs.Prelude.{◌≡◌, ℕ, List, length}
use Rattle.byteorder.specs.Endian.{big_number}
use Rattle.key_wrap_core.specs.Plain.{IsReserved}

-- the word of the eight bytes, the most significant first
unfoldable pub iv_word : List ℕ → ℕ
iv_word bytes = big_number 8 bytes

-- eight bytes, the first four of which are not A65959A6
unfoldable pub IsIv : List ℕ → Type 0
IsIv bytes = (length bytes ≡ 8) × ¬ IsReserved (iv_word bytes)
