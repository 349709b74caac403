-- The field of 256 elements as a tower over its field of 16 elements (M. Hamburg, 'Accelerating AES with vector permute
-- instructions', 2009, section 3): an element is i u + j v, where i and j are of the field of 16, u is 02, and v, which
-- is 5e, is the power u^16, the conjugate of u. A byte of the state keeps i in its upper half and i + j in its lower.
use Rattle.std.specs.Prelude.{ℕ, ◌*◌, ◌/◌, bit_and, bit_xor}
use Rattle.std.specs.Int.{bit_at}
use Rattle.fips197.specs.Field.{product}
use Rattle.fips197.specs.SBox.{affine_bit, number_with_bits}

-- the upper and the lower half of a byte
abbrev pub high : ℕ → ℕ
high x = x / 16

abbrev pub low : ℕ → ℕ
low x = bit_and x 15

-- the second coordinate of the byte's element, j
abbrev pub other : ℕ → ℕ
other x = bit_xor (high x) (low x)

-- the element of the field of 16 with these four bits, in the basis 1, w, w^2, w^3, where w is 0d
unfoldable pub subfield : ℕ → ℕ
subfield n =
    bit_xor (bit_xor (bit_xor (bit_at n 0 * 0x01) (bit_at n 1 * 0x0d)) (bit_at n 2 * 0x51)) (bit_at n 3 * 0xb0)

-- the element that a byte of the state keeps: i u + j v
unfoldable pub element : ℕ → ℕ
element x = bit_xor (product (subfield (high x)) 0x02) (product (subfield (other x)) 0x5e)

-- The cipher's state keeps its bytes as elements. The constant 63 of the S-box is left out of a state's bytes after
-- SubBytes, and added to the round key's instead.
unfoldable pub key_byte : ℕ → ℕ
key_byte x = bit_xor (element x) 0x63

-- the last round key, which is added outside the tower, with the same constant
unfoldable pub last_key_byte : ℕ → ℕ
last_key_byte x = bit_xor x 0x63

-- The inverse cipher's state keeps each byte as the element whose affine map (5.1.1) it is, so that its inverse S-box
-- is the inverse of the element.
unfoldable pub affine_element : ℕ → ℕ
affine_element x = number_with_bits (affine_bit (element x)) 8

-- the same without the constant 63
unfoldable pub linear_element : ℕ → ℕ
linear_element x = bit_xor (affine_element x) 0x63
