-- The S-box and the inverse S-box (FIPS 197, sections 5.1.1 and 5.3.2).
use Rattle.std.specs.Prelude.{ℕ, zero, suc, ◌+◌, ◌*◌, ◌%◌, ◌^◌, ◌==◌, List, map}
use Rattle.std.specs.Int.{bit_at}
use Rattle.std.specs.List.{position_or_len, range_with_len}
use Rattle.fips197.specs.Field.{inverse}

-- bit i of the affine map's value: b'i = bi + b(i+4) + b(i+5) + b(i+6) + b(i+7) + ci, with the indexes modulo 8 and
-- the sum modulo 2, where c is the byte 63 (5.1.1)
abbrev pub affine_bit : ℕ → ℕ → ℕ
affine_bit b i =
    (bit_at b i + bit_at b ((i + 4) % 8) + bit_at b ((i + 5) % 8) + bit_at b ((i + 6) % 8) + bit_at b ((i + 7) % 8)
    + bit_at 0x63 i) % 2

-- the number of n bits whose bit i is f i
unfoldable pub number_with_bits : (ℕ → ℕ) → ℕ → ℕ
number_with_bits f zero = 0
number_with_bits f (suc n) = number_with_bits f n + f n * 2 ^ n

-- the S-box: the affine map on the inverse (5.1.1)
unfoldable pub s_box : ℕ → ℕ
s_box x = let b = inverse x in number_with_bits (affine_bit b) 8

-- the S-box of 00, 01 .. ff (5.1.1, table 4)
unfoldable pub s_boxes : List ℕ
s_boxes = map s_box (range_with_len 0 256)

-- the inverse S-box: the byte whose S-box is y (5.3.2)
unfoldable pub inv_s_box : ℕ → ℕ
inv_s_box y = position_or_len (λ s. s == y) s_boxes
