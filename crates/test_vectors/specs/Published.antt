-- The published vectors, as their standards print them: RFC 3394, sections 4.1 to 4.6; RFC 5649, section 6; FIPS 197,
-- appendix B and appendix C, sections C.1 to C.3.
use Prim.Native.String.{String}
use Rattle.std.specs.Prelude.{ℕ, ◌+◌, ◌*◌, List, [], ◌∷◌, codes}
use Rattle.std.specs.Char.{digit_value}
use Rattle.test_vectors.specs.declared.table.Algorithm.{Algorithm}
use Rattle.test_vectors.specs.declared.table.Algorithm.TheVariants.{KeyWrap, KeyWrapWithPadding, Encryption}
use Rattle.test_vectors.specs.Vectors.{TestVector}

-- the bytes that hex digits spell in pairs, the high half of each byte first
abbrev pub spelled_by : List ℕ → List ℕ
spelled_by [] = []
spelled_by (digit ∷ []) = []
spelled_by (high ∷ low ∷ rest) = (16 * digit_value high + digit_value low) ∷ spelled_by rest

abbrev pub hex : String → List ℕ
hex digits = spelled_by (codes digits)

abbrev vector : String → Algorithm → String → String → String → TestVector
vector name algorithm key input output = record {
  name = codes name;
  algorithm = algorithm;
  key = hex key;
  input = hex input;
  output = hex output;
}

abbrev pub published_vectors : List TestVector
published_vectors =
    vector "rfc3394 4.1" KeyWrap
    "000102030405060708090a0b0c0d0e0f"
    "00112233445566778899aabbccddeeff"
    "1fa68b0a8112b447aef34bd8fb5a7b829d3e862371d2cfe5"
    ∷ vector "rfc3394 4.2" KeyWrap
    "000102030405060708090a0b0c0d0e0f1011121314151617"
    "00112233445566778899aabbccddeeff"
    "96778b25ae6ca435f92b5b97c050aed2468ab8a17ad84e5d"
    ∷ vector "rfc3394 4.3" KeyWrap
    "000102030405060708090a0b0c0d0e0f101112131415161718191a1b1c1d1e1f"
    "00112233445566778899aabbccddeeff"
    "64e8c3f9ce0f5ba263e9777905818a2a93c8191e7d6e8ae7"
    ∷ vector "rfc3394 4.4" KeyWrap
    "000102030405060708090a0b0c0d0e0f1011121314151617"
    "00112233445566778899aabbccddeeff0001020304050607"
    "031d33264e15d33268f24ec260743edce1c6c7ddee725a936ba814915c6762d2"
    ∷ vector "rfc3394 4.5" KeyWrap
    "000102030405060708090a0b0c0d0e0f101112131415161718191a1b1c1d1e1f"
    "00112233445566778899aabbccddeeff0001020304050607"
    "a8f9bc1612c68b3ff6e6f4fbe30e71e4769c8b80a32cb8958cd5d17d6b254da1"
    ∷ vector "rfc3394 4.6" KeyWrap
    "000102030405060708090a0b0c0d0e0f101112131415161718191a1b1c1d1e1f"
    "00112233445566778899aabbccddeeff000102030405060708090a0b0c0d0e0f"
    "28c9f404c4b810f4cbccb35cfb87f8263f5786e2d80ed326cbc7f0e71a99f43bfb988b9b7a02dd21"
    ∷ vector "rfc5649 20" KeyWrapWithPadding
    "5840df6e29b02af1ab493b705bf16ea1ae8338f4dcc176a8"
    "c37b7e6492584340bed12207808941155068f738"
    "138bdeaa9b8fa7fc61f97742e72248ee5ae6ae5360d1ae6a5f54f373fa543b6a"
    ∷ vector "rfc5649 7" KeyWrapWithPadding
    "5840df6e29b02af1ab493b705bf16ea1ae8338f4dcc176a8"
    "466f7250617369"
    "afbeb0f07dfbf5419200f2ccb50bb24f"
    ∷ vector "fips197 1" Encryption
    "2b7e151628aed2a6abf7158809cf4f3c"
    "3243f6a8885a308d313198a2e0370734"
    "3925841d02dc09fbdc118597196a0b32"
    ∷ vector "fips197 2" Encryption
    "000102030405060708090a0b0c0d0e0f"
    "00112233445566778899aabbccddeeff"
    "69c4e0d86a7b0430d8cdb78070b4c55a"
    ∷ vector "fips197 3" Encryption
    "000102030405060708090a0b0c0d0e0f1011121314151617"
    "00112233445566778899aabbccddeeff"
    "dda97ca4864cdfe06eaf70a0ec0d7191"
    ∷ vector "fips197 4" Encryption
    "000102030405060708090a0b0c0d0e0f101112131415161718191a1b1c1d1e1f"
    "00112233445566778899aabbccddeeff"
    "8ea2b7ca516745bfeafc49904b496089"
    ∷ []

-- the wrapped key of RFC 3394, section 4.1, with its last bit changed
abbrev pub damaged : List ℕ
damaged = hex "1fa68b0a8112b447aef34bd8fb5a7b829d3e862371d2cfe4"

-- the KEK of RFC 3394, section 4.1
abbrev pub damaged_kek : List ℕ
damaged_kek = hex "000102030405060708090a0b0c0d0e0f"
