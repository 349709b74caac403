-- The lengths, in bytes, of keys and of wrapped keys: this project's profile of
-- RFC 3394, section 2.2, and RFC 5649, section 4. A key has at most 1,048,576 bytes; the standards allow more.
use Rattle.std.specs.Prelude.{◌≡◌, ℕ, ◌+◌, ◌%◌, ◌≤◌}

-- a plain key: at least two words
abbrev pub IsPlainKeyLength : ℕ → Type 0
IsPlainKeyLength len = (len % 8 ≡ 0) × (16 ≤ len) × (len ≤ 1048576)

-- its wrapping has one word more
abbrev pub IsPlainTextLength : ℕ → Type 0
IsPlainTextLength len = (len % 8 ≡ 0) × (24 ≤ len) × (len ≤ 1048576 + 8)

-- a padded key has any length but 0
abbrev pub IsPaddedKeyLength : ℕ → Type 0
IsPaddedKeyLength len = (1 ≤ len) × (len ≤ 1048576)

-- its wrapping has one word more than the key with its padding
abbrev pub IsPaddedTextLength : ℕ → Type 0
IsPaddedTextLength len = (len % 8 ≡ 0) × (16 ≤ len) × (len ≤ 1048576 + 8)
