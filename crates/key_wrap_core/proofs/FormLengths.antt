-- The length of a text that wraps a key.
use Rattle.std.proofs.Common.{◌≡◌, ℕ, ◌+◌, ◌-◌, ◌*◌, List, [], ◌∷◌, length, replicate, ap, arith, length-append}
use Rattle.std.proofs.lemmas.List.{length-replicate}
use Rattle.block_pair.specs.Pair.{AreInverse}
use Rattle.key_wrap_core.specs.Words.{joined}
use Rattle.key_wrap_core.specs.Lengths.{IsPlainTextLength, IsPaddedTextLength}
use Rattle.key_wrap_core.specs.Plain.{Plain}
use Rattle.key_wrap_core.specs.Padded.{Padded, PaddedText, padded, aiv, word_count}
use Rattle.key_wrap_core.proofs.Spelling.{length-spelled, joined_block}
use Rattle.key_wrap_core.proofs.Tapes.{wraps_length}

-- a plain text is a word longer than its key
pub plain_text_length : {E : List ℕ → List ℕ} {iv : ℕ} {key text : List ℕ} → Plain E iv key text → length text ≡ length key + 8
plain_text_length h =
    omega (arith, ap length h.key_words, ap length h.text_words, length-spelled h.P, length-spelled h.C, wraps_length h.wraps)

pub plain_text_legal : {E : List ℕ → List ℕ} {iv : ℕ} {key text : List ℕ} → Plain E iv key text → IsPlainTextLength (length text)
plain_text_legal h = let e = plain_text_length h in (omega arith, omega arith, omega arith)

-- the padded key fills its words
pub length-padded : (key : List ℕ) → length (padded key) ≡ 8 * word_count (length key)
length-padded key =
    omega (
      arith,
      length-append key (replicate (8 * word_count (length key) - length key) 0),
      length-replicate {A = ℕ} (8 * word_count (length key) - length key) 0,
    )

-- a padded text is a word longer than its words of key data
pub padded_words_length : {E D : List ℕ → List ℕ} (iv : ℕ) (P text : List ℕ) → AreInverse E D → PaddedText E iv P text → length text ≡ 8 * length P + 8
padded_words_length iv [] text inv t = omega (arith, ap length t.1, length-spelled t.0, wraps_length t.2)
padded_words_length iv (p ∷ []) text inv t = omega (arith, ap length t, (inv.encrypts (joined iv p) (joined_block iv p)).sixteen)
padded_words_length iv (p ∷ q ∷ P) text inv t = omega (arith, ap length t.1, length-spelled t.0, wraps_length t.2)

pub padded_text_length : {E D : List ℕ → List ℕ} {key text : List ℕ} → AreInverse E D → Padded E key text → length text ≡ 8 * word_count (length key) + 8
padded_text_length {key = key} {text = text} inv h =
    let words : 8 * length h.P ≡ 8 * word_count (length key) = omega (arith, length-spelled h.P, ap length h.key_words, length-padded key) in
    let whole = padded_words_length (aiv (length key)) h.P text inv h.text_words in
    omega arith

pub padded_text_legal : {E D : List ℕ → List ℕ} {key text : List ℕ} → AreInverse E D → Padded E key text → IsPaddedTextLength (length text)
padded_text_legal inv h = let e = padded_text_length inv h in (omega arith, omega arith, omega arith)
