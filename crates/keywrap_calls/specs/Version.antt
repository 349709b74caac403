-- Which library this is.
use Rattle.std.specs.Prelude.{ℕ}

-- the version 1.3.0, as KEYWRAP_VERSION of keywrap.h: 16, 8 and 8 bits
abbrev pub version : ℕ
version = 0x1_0300
