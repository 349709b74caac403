-- The S-box on each byte of a word is SubWord: the vector has four copies of the word, and the lowest is taken.
use Rattle.std.proofs.Common.{◌≡◌, ℕ, ◌+◌, ◌*◌, ◌/◌, ◌%◌, ◌<◌, List, ap, ap₂, ◌∙◌, arith}
use lib.Lanes.{number_l}
use Rattle.fips197.specs.KeyExpansion.{sub_word}
use Rattle.fips197.specs.SBox.{s_box}
use Rattle.fips197.specs.SBoxLaw.{s_box_byte}
use Rattle.aes_vector.proofs.expansion.ByShufflesSubWord.sub_word.Goals as goal

-- the lowest 32 bits of a number whose lowest bytes are a, b, c and d
lowest : (a b c d rest : ℕ) → a < 256 → b < 256 → c < 256 → d < 256
    → (a + 256 * (b + 256 * (c + 256 * (d + 256 * rest)))) % 4294967296 ≡ d * 16777216 + c * 65536 + b * 256 + a
lowest a b c d rest ha hb hc hd = omega arith

-- SubWord of w, from the lanes of a number whose lowest 32 bits are w
four_lanes : (w m rest : ℕ) →
    let n = w + 4294967296 * m in
    (s_box (n % 256) + 256 * (s_box (n / 256 % 256) + 256 *
    (s_box (n / 256 / 256 % 256) + 256 * (s_box (n / 256 / 256 / 256 % 256) + 256 * rest)))) % 4294967296
    ≡ s_box (w / 16777216 % 256) * 16777216 + s_box (w / 65536 % 256) * 65536 + s_box (w / 256 % 256) * 256 + s_box (w % 256)
four_lanes w m rest =
    let n = w + 4294967296 * m in
    let e0 : n % 256 ≡ w % 256 = omega arith in
    let e1 : n / 256 % 256 ≡ w / 256 % 256 = omega arith in
    let e2 : n / 256 / 256 % 256 ≡ w / 65536 % 256 = omega arith in
    let e3 : n / 256 / 256 / 256 % 256 ≡ w / 16777216 % 256 = omega arith in
    lowest (s_box (n % 256)) (s_box (n / 256 % 256)) (s_box (n / 256 / 256 % 256)) (s_box (n / 256 / 256 / 256 % 256)) rest
    (s_box_byte _ (omega arith)) (s_box_byte _ (omega arith)) (s_box_byte _ (omega arith)) (s_box_byte _ (omega arith))
    ∙ ap₂ (λ (x y : ℕ). x + y)
    (ap₂ (λ (x y : ℕ). x + y)
    (ap₂ (λ (x y : ℕ). x + y) (ap (λ (x : ℕ). s_box x * 16777216) e3) (ap (λ (x : ℕ). s_box x * 65536) e2))
    (ap (λ (x : ℕ). s_box x * 256) e1)) (ap s_box e0)

pub returns : goal.returns
unfolding sub_word
returns c =
    c.index.ensures ∙ ap (λ (v : List ℕ). number_l 256 v % 4294967296) c.substituted-bytes.ensures
    ∙ four_lanes c.args.word _ _
