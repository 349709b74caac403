-- The published vectors are right by the definitions. The checker computes AES, with every definition opened. A wrapping
-- is shown by its tape, of which RFC 3394 prints the words after each step.
use Rattle.std.proofs.Common.{Bool, ◌≡◌, ℕ, zero, suc, ◌+◌, ◌-◌, ◌*◌, ◌^◌, ◌≤◌, ◌<◌, List, [], ◌∷◌, length, take, drop, nat_lt, bit_xor, true, inl, inr, refl, arith}
use Rattle.std.specs.Prelude.{⊤}
use Rattle.std.specs.List.{list_all}
use Rattle.std.proofs.lemmas.Bool.{and_parts, cases_lt, ltb-true}
use Rattle.fips197.specs.Field.{inverse, polynomial_product, product, remainder}
use Rattle.fips197.specs.SBox.{number_with_bits, s_box}
use Rattle.fips197.specs.KeyExpansion.{IsKekLength, first_words, key_expansion, next_word, rot_word, round_key, sub_word, temp}
use Rattle.fips197.specs.Rounds.{add_round_key, multiplied, shift_rows, sub_bytes}
use Rattle.fips197.specs.StateLaw.{all_bytes}
use Rattle.fips197.specs.Cipher.{cipher, cipher_by, rounds}
use Rattle.key_wrap_core.specs.Words.{AreWords, at, joined, spelled, word_bytes}
use Rattle.key_wrap_core.specs.Tape.{Tape, Wraps}
use Rattle.key_wrap_core.specs.Lengths.{IsPaddedKeyLength, IsPlainKeyLength}
use Rattle.key_wrap_core.specs.Padded.{Padded, aiv, padded}
use Rattle.key_wrap_core.specs.Plain.{Plain, default_iv}
use Rattle.test_vectors.specs.Published.{hex}
use Rattle.keywrap_cli.proofs.tests.published.published_vectors_are_right.Goals as goal

infixr 4 ◌&◌
◌&◌ : {A B : Type 0} → A → B → A × B
a & b = (a, b)

abbrev is_word : ℕ → Bool
is_word w = nat_lt w (2 ^ 64)

-- the equations of the first m steps of a tape
abbrev AreSteps : (List ℕ → List ℕ) → ℕ → (x a : List ℕ) → ℕ → Type 0
AreSteps E n x a zero = ⊤
AreSteps E n x a (suc m) = AreSteps E n x a m × (E (joined (at a m) (at x m)) ≡ joined (bit_xor (at a (suc m)) (suc m)) (at x (n + m)))

step_of : (E : List ℕ → List ℕ) (n : ℕ) (x a : List ℕ) (m t : ℕ) → AreSteps E n x a m → 1 ≤ t → t ≤ m
    → E (joined (at a (t - 1)) (at x (t - 1))) ≡ joined (bit_xor (at a t) t) (at x (n + t - 1))
step_of E n x a zero t steps low high = absurd (omega (arith, low, high))
step_of E n x a (suc m) t steps low high = elim (cases_lt t (suc m)) [
  | inl less ↦ step_of E n x a m t steps.0 low (omega arith)
  | inr most ↦
      let last : t ≡ suc m = omega arith in
      let before : suc m - 1 ≡ m = omega arith in
      let after : n + suc m - 1 ≡ n + m = omega arith in
      rw (last, before, after) steps.1
]

are_words : (ws : List ℕ) → list_all is_word ws ≡ true → AreWords ws
are_words [] e = tt
are_words (w ∷ ws) e =
    let parts = and_parts (nat_lt w (2 ^ 64)) (list_all is_word ws) e in
    (ltb-true w (2 ^ 64) parts.0, are_words ws parts.1)

-- a tape of these words
wraps : (E : List ℕ → List ℕ) (n iv : ℕ) (x a : List ℕ) → length (take n x) ≡ n → length x ≡ 7 * n → length a ≡ 6 * n + 1
    → list_all is_word x ≡ true → list_all is_word a ≡ true → at a 0 ≡ iv → AreSteps E n x a (6 * n)
    → Wraps E iv (take n x) (at a (6 * n) ∷ drop (6 * n) x)
wraps E n iv x a size length_x length_a words_x words_a initial steps = record {
  x = x;
  a = a;
  tape = rw size (record {
    length_x = length_x;
    length_a = length_a;
    words_x = are_words x words_x;
    words_a = are_words a words_a;
    step = λ t. step_of E n x a (6 * n) t steps;
  });
  initial = initial;
  key = rw size refl;
  text = rw size refl;
}

plain : (kek key text : List ℕ) (n : ℕ) (x a : List ℕ) → IsPlainKeyLength (length key) → spelled (take n x) ≡ key
    → spelled (at a (6 * n) ∷ drop (6 * n) x) ≡ text → Wraps (cipher kek) default_iv (take n x) (at a (6 * n) ∷ drop (6 * n) x)
    → Plain (cipher kek) default_iv key text
plain kek key text n x a legal key_words text_words wraps = record {
  legal = legal;
  P = take n x;
  C = at a (6 * n) ∷ drop (6 * n) x;
  key_words = key_words;
  text_words = text_words;
  wraps = wraps;
}

-- opens AES
opened : ℕ
unfolding cipher_by rounds sub_bytes shift_rows multiplied add_round_key s_box number_with_bits inverse product remainder polynomial_product round_key key_expansion first_words next_word temp sub_word rot_word word_bytes
opened = 0

abbrev kek16 : List ℕ
kek16 = hex "000102030405060708090a0b0c0d0e0f"

abbrev kek24 : List ℕ
kek24 = hex "000102030405060708090a0b0c0d0e0f1011121314151617"

abbrev kek32 : List ℕ
kek32 = hex "000102030405060708090a0b0c0d0e0f101112131415161718191a1b1c1d1e1f"

abbrev kek5649 : List ℕ
kek5649 = hex "5840df6e29b02af1ab493b705bf16ea1ae8338f4dcc176a8"

abbrev x4_1 : List ℕ
x4_1 =
    0x0011223344556677 ∷ 0x8899aabbccddeeff ∷ 0x74ce86fbd7b805e7 ∷ 0xd132ee38147e76f8 ∷ 0xfe6e8d679c5d3460 ∷ 0x07b2bd973e36a6fc ∷ 0x25f5a3adc2195401 ∷
    0xf14863bb1e9ca90a ∷ 0xb556d35ed8cef052 ∷ 0x64bae5818d0570bb ∷ 0xbe114b343eb00981 ∷ 0x4fd3d2b7d74fbb42 ∷ 0xaef34bd8fb5a7b82 ∷ 0x9d3e862371d2cfe5 ∷ []

abbrev a4_1 : List ℕ
a4_1 =
    0xa6a6a6a6a6a6a6a6 ∷ 0xf4740052e82a2250 ∷ 0x06ba4ebde7768d09 ∷ 0xfc967627be93720b ∷ 0x5896ea9028ee203f ∷ 0x93aea71b258d90c6 ∷ 0xe3ee986344d878f1 ∷
    0x2bfc21b2c20e4001 ∷ 0x4be8ce99c0a43a75 ∷ 0xebe1ce91067024fa ∷ 0x5a9c7b1f5b1c3b4c ∷ 0x93b71967eed41ff7 ∷ 0x1fa68b0a8112b447 ∷ []

s4_1 : AreSteps (cipher kek16) 2 x4_1 a4_1 12
unfolding opened
s4_1 = ((((((((((((tt, refl), refl), refl), refl), refl), refl), refl), refl), refl), refl), refl), refl)

abbrev x4_2 : List ℕ
x4_2 =
    0x0011223344556677 ∷ 0x8899aabbccddeeff ∷ 0x351d385096ccfb29 ∷ 0x51f22f3286758a2d ∷ 0xbc164f51e20cc983 ∷ 0x05fc2d8f8ff4b919 ∷ 0x429487269d3a0016 ∷
    0x05a2d8fb4dd5bd7a ∷ 0xd40b091cdbac0340 ∷ 0x89f0d6c06f8ca9b4 ∷ 0x4d5b3dfe7c04abba ∷ 0xeb24ccfa52ea9078 ∷ 0xf92b5b97c050aed2 ∷ 0x468ab8a17ad84e5d ∷ []

abbrev a4_2 : List ℕ
a4_2 =
    0xa6a6a6a6a6a6a6a6 ∷ 0xdfe8fd5d1a3786a6 ∷ 0x9d9b32b9ed742e00 ∷ 0x7b8e343ca51cf8a8 ∷ 0x02a97c5897140591 ∷ 0x15d4b63f66583812 ∷ 0xae2d0b76a6951eec ∷
    0x79f849444f4b8aaf ∷ 0x5933a9195b5f5e29 ∷ 0x57ada800299c2e8c ∷ 0xbf17bd6a9bc80169 ∷ 0xb68bf270ae815444 ∷ 0x96778b25ae6ca435 ∷ []

s4_2 : AreSteps (cipher kek24) 2 x4_2 a4_2 12
unfolding opened
s4_2 = ((((((((((((tt, refl), refl), refl), refl), refl), refl), refl), refl), refl), refl), refl), refl)

abbrev x4_3 : List ℕ
x4_3 =
    0x0011223344556677 ∷ 0x8899aabbccddeeff ∷ 0xf661bd9f31fbfa31 ∷ 0xf60e0cdb7f429fe8 ∷ 0x5602001bfa07ad8b ∷ 0x58924f777c3f678c ∷ 0xf4df378183e3d5b2 ∷
    0x91ac1d36a964f41b ∷ 0x5271d5ced80f34ed ∷ 0x67d8ed899e7929b8 ∷ 0x0df7e50829123648 ∷ 0x3472d5993d318fd2 ∷ 0x63e9777905818a2a ∷ 0x93c8191e7d6e8ae7 ∷ []

abbrev a4_3 : List ℕ
a4_3 =
    0xa6a6a6a6a6a6a6a6 ∷ 0x794314d454e3fde0 ∷ 0xd450ea5c5bbcb563 ∷ 0x85dbdf1879d5c0a6 ∷ 0x738c291128b72269 ∷ 0x2656a02dfff054d9 ∷ 0xddfd0c0e8b52a63c ∷
    0x39ab00d4ae4399ed ∷ 0x4ce414878463eaa4 ∷ 0xfbb44db106aa0780 ∷ 0x877112a7308adccf ∷ 0x78e40190807cc15a ∷ 0x64e8c3f9ce0f5ba2 ∷ []

s4_3 : AreSteps (cipher kek32) 2 x4_3 a4_3 12
unfolding opened
s4_3 = ((((((((((((tt, refl), refl), refl), refl), refl), refl), refl), refl), refl), refl), refl), refl)

abbrev x4_4 : List ℕ
x4_4 =
    0x0011223344556677 ∷ 0x8899aabbccddeeff ∷ 0x0001020304050607 ∷ 0x351d385096ccfb29 ∷ 0x51f22f3286758a2d ∷ 0xff540e514de120a3 ∷ 0xa08daa041d17bbba ∷
    0xae82bc1118a5dea4 ∷ 0xd1e708fd13778787 ∷ 0x926ed65a9e853fd9 ∷ 0x552a09e141d08ae3 ∷ 0xed5e8456e61bd295 ∷ 0x98883edc6b080fb5 ∷ 0x63f6d88a0663fef9 ∷
    0x463437433a93efe5 ∷ 0xc46965f34efb2261 ∷ 0x56e3cee892bbefc4 ∷ 0x84943c8c67fcfd53 ∷ 0x68f24ec260743edc ∷ 0xe1c6c7ddee725a93 ∷ 0x6ba814915c6762d2 ∷ []

abbrev a4_4 : List ℕ
a4_4 =
    0xa6a6a6a6a6a6a6a6 ∷ 0xdfe8fd5d1a3786a6 ∷ 0x9d9b32b9ed742e00 ∷ 0x2c8e19a519025b7f ∷ 0xe727c7bdf822602a ∷ 0x15b61f7b25d51705 ∷ 0xa187755aea64719a ∷
    0x5a994895d81644b0 ∷ 0x864f408c8ab8cdc7 ∷ 0x53f4373f575eb7ad ∷ 0x9eaa4cda0b1ba5f5 ∷ 0xb1b9902c68e0eb59 ∷ 0xfce591d77709a6ec ∷ 0x428428d2bd88cf55 ∷
    0x6ac861ab961da576 ∷ 0xe80db49cc9a1ea6e ∷ 0xabee3534ac465c3c ∷ 0xe7cc8d8cede62be6 ∷ 0x031d33264e15d332 ∷ []

s4_4 : AreSteps (cipher kek24) 3 x4_4 a4_4 18
unfolding opened
s4_4 = ((((((((((((((((((tt, refl), refl), refl), refl), refl), refl), refl), refl), refl), refl), refl), refl), refl), refl), refl), refl), refl), refl)

abbrev x4_5 : List ℕ
x4_5 =
    0x0011223344556677 ∷ 0x8899aabbccddeeff ∷ 0x0001020304050607 ∷ 0xf661bd9f31fbfa31 ∷ 0xf60e0cdb7f429fe8 ∷ 0x6ca405593a3b5154 ∷ 0x0cc86a4d9b9c6a31 ∷
    0xaebe2d5c8bf747a9 ∷ 0x39ebc1a1a53ff55b ∷ 0x444f92bf78e77bb1 ∷ 0xc6874607903270cd ∷ 0x740a273461ed82c6 ∷ 0xfb1611a83beb567f ∷ 0x73edc8cb9322c34e ∷
    0x0b08cfdf48020f0d ∷ 0xfb1f2965fce1e783 ∷ 0xd36f4ffba2c82ed9 ∷ 0xc490c33642717146 ∷ 0xf6e6f4fbe30e71e4 ∷ 0x769c8b80a32cb895 ∷ 0x8cd5d17d6b254da1 ∷ []

abbrev a4_5 : List ℕ
a4_5 =
    0xa6a6a6a6a6a6a6a6 ∷ 0x794314d454e3fde0 ∷ 0xd450ea5c5bbcb563 ∷ 0x9df8f5405fbc00c2 ∷ 0xf1d28ea6295891e8 ∷ 0xbf213bfd04e8a24a ∷ 0x6f85bfbdb7e880e5 ∷
    0xd532789e4e79d81e ∷ 0x2a5ffcef1f1916d0 ∷ 0x01271ba91d9804ff ∷ 0xa3223bd7237f7039 ∷ 0xb50c330616e7b1cc ∷ 0xfb8aff3f083e12c2 ∷ 0x82f597607784a331 ∷
    0xd48e5e83b7c906d5 ∷ 0x1bf2b1cd947311b9 ∷ 0xc9f5f26a378011ce ∷ 0x39128ce5e435f3b1 ∷ 0xa8f9bc1612c68b3f ∷ []

s4_5 : AreSteps (cipher kek32) 3 x4_5 a4_5 18
unfolding opened
s4_5 = ((((((((((((((((((tt, refl), refl), refl), refl), refl), refl), refl), refl), refl), refl), refl), refl), refl), refl), refl), refl), refl), refl)

abbrev x4_6 : List ℕ
x4_6 =
    0x0011223344556677 ∷ 0x8899aabbccddeeff ∷ 0x0001020304050607 ∷ 0x08090a0b0c0d0e0f ∷ 0xf661bd9f31fbfa31 ∷ 0xf60e0cdb7f429fe8 ∷ 0x6ca405593a3b5154 ∷
    0xe5923cb9fdb56fbc ∷ 0xe7d1194d853e53f8 ∷ 0xefd48ba304945576 ∷ 0xc365b66943e2d760 ∷ 0x73e3b6cbe5d05d74 ∷ 0xd6ae29ece7192d43 ∷ 0xfbec169fa5c0f6ba ∷
    0xf56701daf0388216 ∷ 0x3cf149e90e8c04d9 ∷ 0x4745856af333f01f ∷ 0xbca418bbf7dce60b ∷ 0xc272e9466aae98f9 ∷ 0x40f68c91db49702c ∷ 0x1bb8c765a84195e7 ∷
    0xf7edad518c960d36 ∷ 0x1cfbf6b4c24cb982 ∷ 0x07dfe775b9687e73 ∷ 0xcbccb35cfb87f826 ∷ 0x3f5786e2d80ed326 ∷ 0xcbc7f0e71a99f43b ∷ 0xfb988b9b7a02dd21 ∷ []

abbrev a4_6 : List ℕ
a4_6 =
    0xa6a6a6a6a6a6a6a6 ∷ 0x794314d454e3fde0 ∷ 0xd450ea5c5bbcb563 ∷ 0x9df8f5405fbc00c2 ∷ 0x564408fdd0dd2ea0 ∷ 0x4ef02edd3146afbe ∷ 0x963aaffd96b223ea ∷
    0x66d7a8add086b9da ∷ 0xc58b9d3ac6d5b946 ∷ 0x1a681354e84c41f1 ∷ 0xdba417fb51f9e3c1 ∷ 0x0629eb29a42e4fd2 ∷ 0xf9ed8a1429515669 ∷ 0x2e8e2b6bb201669b ∷
    0x15342443cb95adbf ∷ 0x33fe29365885c4b8 ∷ 0x5075496800978b5a ∷ 0xa5382a26b47551e0 ∷ 0xf19d80d437efe8eb ∷ 0xb422b444b87a1918 ∷ 0xd058823360f88a23 ∷
    0xc89a96ca7b163ed9 ∷ 0x39d02fe7435870fb ∷ 0x0aeb82ae3146a90c ∷ 0x28c9f404c4b810f4 ∷ []

s4_6 : AreSteps (cipher kek32) 4 x4_6 a4_6 24
unfolding opened
s4_6 = ((((((((((((((((((((((((tt, refl), refl), refl), refl), refl), refl), refl), refl), refl), refl), refl), refl), refl), refl), refl), refl), refl), refl), refl), refl), refl), refl), refl), refl)

abbrev x20 : List ℕ
x20 =
    0xc37b7e6492584340 ∷ 0xbed1220780894115 ∷ 0x5068f73800000000 ∷ 0x6b967346e5bf52f6 ∷ 0x025173082bc95886 ∷ 0x4bb0f1479d825415 ∷ 0xb2c45fc1b6294477 ∷
    0x8ac2c980de4a9c23 ∷ 0xebcb789e2dc5b685 ∷ 0x9bf3e0add9c48f03 ∷ 0x5d00b2029f9ec468 ∷ 0x55d6c4dc1dbab022 ∷ 0x462189a9e1573a50 ∷ 0x5c0bec9d118443d6 ∷
    0x07dfcccab41f046b ∷ 0xc42351c366a41fb7 ∷ 0x20715e7e26e4a97b ∷ 0x9bd583f440cdb9dd ∷ 0x61f97742e72248ee ∷ 0x5ae6ae5360d1ae6a ∷ 0x5f54f373fa543b6a ∷ []

abbrev a20 : List ℕ
a20 =
    0xa65959a600000014 ∷ 0x14e0805b56545f04 ∷ 0x11065a650e5bc1d3 ∷ 0x6eba9f924221fb64 ∷ 0x36d2ba675d146184 ∷ 0xdf4c4c96f1e8501a ∷ 0x9062216befa0d863 ∷
    0x383b21c2e93ccdcd ∷ 0x6e80328ba43f8ad6 ∷ 0x30f77af6d6812629 ∷ 0x030c47b8386c848a ∷ 0xe462ff5030b3f409 ∷ 0x445114f6da00a78d ∷ 0x20e741cc7b3fd849 ∷
    0xb847bd08d8a0244e ∷ 0x77051f4e955b3b53 ∷ 0xd06d6c6f1cb2f738 ∷ 0xfdf1a67fbe23dd61 ∷ 0x138bdeaa9b8fa7fc ∷ []

s20 : AreSteps (cipher kek5649) 3 x20 a20 18
unfolding opened
s20 = ((((((((((((((((((tt, refl), refl), refl), refl), refl), refl), refl), refl), refl), refl), refl), refl), refl), refl), refl), refl), refl), refl)

e7 : cipher kek5649 (joined (aiv 7) 0x466f725061736900) ≡ hex "afbeb0f07dfbf5419200f2ccb50bb24f"
unfolding opened
e7 = refl

f1 : cipher (hex "2b7e151628aed2a6abf7158809cf4f3c") (hex "3243f6a8885a308d313198a2e0370734") ≡ hex "3925841d02dc09fbdc118597196a0b32"
unfolding opened
f1 = refl

f2 : cipher kek16 (hex "00112233445566778899aabbccddeeff") ≡ hex "69c4e0d86a7b0430d8cdb78070b4c55a"
unfolding opened
f2 = refl

f3 : cipher kek24 (hex "00112233445566778899aabbccddeeff") ≡ hex "dda97ca4864cdfe06eaf70a0ec0d7191"
unfolding opened
f3 = refl

f4 : cipher kek32 (hex "00112233445566778899aabbccddeeff") ≡ hex "8ea2b7ca516745bfeafc49904b496089"
unfolding opened
f4 = refl

pub returns : goal.returns
unfolding word_bytes
returns c =
    (inl refl, plain _ _ _ 2 x4_1 a4_1 (refl, omega arith, omega arith) refl refl (wraps _ 2 _ x4_1 a4_1 refl refl refl refl refl refl s4_1))
    & (inr (inl refl), plain _ _ _ 2 x4_2 a4_2 (refl, omega arith, omega arith) refl refl (wraps _ 2 _ x4_2 a4_2 refl refl refl refl refl refl s4_2))
    & (inr (inr refl), plain _ _ _ 2 x4_3 a4_3 (refl, omega arith, omega arith) refl refl (wraps _ 2 _ x4_3 a4_3 refl refl refl refl refl refl s4_3))
    & (inr (inl refl), plain _ _ _ 3 x4_4 a4_4 (refl, omega arith, omega arith) refl refl (wraps _ 3 _ x4_4 a4_4 refl refl refl refl refl refl s4_4))
    & (inr (inr refl), plain _ _ _ 3 x4_5 a4_5 (refl, omega arith, omega arith) refl refl (wraps _ 3 _ x4_5 a4_5 refl refl refl refl refl refl s4_5))
    & (inr (inr refl), plain _ _ _ 4 x4_6 a4_6 (refl, omega arith, omega arith) refl refl (wraps _ 4 _ x4_6 a4_6 refl refl refl refl refl refl s4_6))
    & (inr (inl refl), record { legal = (omega arith, omega arith); P = take 3 x20; words = are_words (take 3 x20) refl; key_words = refl; text_words = (at a20 18 ∷ drop 18 x20, refl, wraps _ 3 _ x20 a20 refl refl refl refl refl refl s20) })
    & (inr (inl refl), record { legal = (omega arith, omega arith); P = 0x466f725061736900 ∷ []; words = are_words (0x466f725061736900 ∷ []) refl; key_words = refl; text_words = e7 })
    & (inl refl, (record { sixteen = refl; bytes = all_bytes (hex "3243f6a8885a308d313198a2e0370734") refl }, f1))
    & (inl refl, (record { sixteen = refl; bytes = all_bytes (hex "00112233445566778899aabbccddeeff") refl }, f2))
    & (inr (inl refl), (record { sixteen = refl; bytes = all_bytes (hex "00112233445566778899aabbccddeeff") refl }, f3))
    & (inr (inr refl), (record { sixteen = refl; bytes = all_bytes (hex "00112233445566778899aabbccddeeff") refl }, f4))
    & tt
