-- The plain form over the registers: what a wrapping says of the buffer, and what fixes what.
use Rattle.std.proofs.Common.{◌≡◌, ℕ, ◌-◌, ◌*◌, ◌%◌, List, ◌++◌, length, subst, arith}
use Rattle.std.proofs.lemmas.List.{append-nil, append_cancel_left}
use Rattle.block_pair.specs.Pair.{AreInverse}
use Rattle.block_pair.specs.Words.{IsWord}
use Rattle.key_wrap_core.specs.Words.{word_bytes, spelled}
use Rattle.key_wrap_core.specs.Registers.{Registers}
use Rattle.key_wrap_core.specs.Lengths.{IsPlainKeyLength}
use Rattle.key_wrap_core.specs.Plain.{Plain, IsReserved, default_iv}
use Rattle.key_wrap_core.specs.Padded.{padded, word_count}
use Rattle.key_wrap_core.proofs.Tapes.{wraps_of, registers_of, registers_forward, registers_backward}

pub default_free : ¬ IsReserved default_iv
default_free = λ e. absurd (omega (arith, e))

-- a plain wrapping is a run of the registers from its initial value and the key
pub plain_registers : {E : List ℕ → List ℕ} {iv : ℕ} {key text : List ℕ} → Plain E iv key text → Registers E (word_bytes iv ++ key) text
plain_registers {E = E} {iv = iv} {key = key} {text = text} h =
    subst (λ (t : List ℕ). Registers E (word_bytes iv ++ key) t) h.text_words
    (subst (λ (k : List ℕ). Registers E (word_bytes iv ++ k) (spelled h.C)) h.key_words (registers_of h.wraps))

pub registers_plain : {E : List ℕ → List ℕ} (iv : ℕ) (key text : List ℕ) → IsWord iv → IsPlainKeyLength (length key)
    → Registers E (word_bytes iv ++ key) text
    → Plain E iv key text
registers_plain iv key text word legal r =
    let w = wraps_of iv key text word r in
    record { legal = legal; P = w.P; C = w.C; key_words = w.key_words; text_words = w.text_words; wraps = w.wraps }

pub plain_only_text : {E : List ℕ → List ℕ} {iv : ℕ} {key text other : List ℕ} → Plain E iv key text → Plain E iv key other → other ≡ text
plain_only_text h k = registers_forward (plain_registers k) (plain_registers h)

pub plain_only_key : {E D : List ℕ → List ℕ} {iv : ℕ} {key other text : List ℕ} → AreInverse E D → Plain E iv key text → Plain E iv other text
    → other ≡ key
plain_only_key {iv = iv} {key = key} {other = other} inv h k =
    append_cancel_left (word_bytes iv) other key (registers_backward inv (plain_registers k) (plain_registers h))

-- a key of whole words is padded already
pub padded_whole : (key : List ℕ) → length key % 8 ≡ 0 → padded key ≡ key
padded_whole key whole =
    let none : 8 * word_count (length key) - length key ≡ 0 = omega arith in
    rw none (append-nil key)
