-- The initial value and the registers that were found, the key that they hold, and the texts that they are wrapped to.
use Rattle.std.proofs.Common.{◌≡◌, ℕ, ◌+◌, ◌-◌, ◌≤◌, List, ◌++◌, length, take, drop, bit_xor}
use Rattle.std.proofs.Common.{refl, ap, arith, length-append, length-drop}
use Rattle.std.proofs.lemmas.List.{take_all}
use Rattle.block_pair.specs.Pair.{AreInverse}
use Rattle.block_pair.specs.Words.{IsWord}
use Rattle.key_wrap_core.specs.declared.agreed_form.AgreedForm.{AgreedForm}
use Rattle.key_wrap_core.specs.declared.agreed_form.AgreedForm.TheVariants.{Plain, Padded}
use Rattle.key_wrap_core.specs.declared.forms.Form.{Form}
use Rattle.key_wrap_core.specs.declared.forms.Form.TheVariants as forms
use Rattle.key_wrap_core.specs.Words.{word_bytes}
use Rattle.key_wrap_core.specs.Lengths.{IsPlainTextLength, IsPaddedKeyLength}
use Rattle.key_wrap_core.specs.Padded.{aiv, padded}
use Rattle.key_wrap_core.specs.PaddedRegisters.{PaddedRegisters, IsAivAndKey, HasKeyLength}
use Rattle.key_wrap_core.specs.NoKey.{NoKey}
use Rattle.key_wrap_core.specs.Forms.{IsWrapping, IsTextLengthAs, with_value}
use Rattle.key_wrap_core.specs.Found.{IsIvAndKey}
use Rattle.key_wrap_core.proofs.Spelling.{length-word_bytes, word_front}
use Rattle.key_wrap_core.proofs.Tapes.{wraps_iv}
use Rattle.key_wrap_core.proofs.FormLengths.{plain_text_legal, padded_text_legal}
use Rattle.key_wrap_core.proofs.PlainForm.{plain_registers, registers_plain, padded_whole, plain_only_text, plain_only_key}
use Rattle.key_wrap_core.proofs.PaddedForm.{many_registers, registers_many, padded_registers, registers_padded, padded_registers_backward, padded_only_text, padded_only_key}
use Rattle.key_wrap_core.proofs.Differences.{xor_same, same_xor}

-- In each form a key has one wrapping, and a wrapping one key and a legal length.
pub only_text : (form : AgreedForm) (E : List ℕ → List ℕ) (key text other : List ℕ) → IsWrapping form E key text → IsWrapping form E key other → other ≡ text
only_text (Plain iv) E key text other h k = plain_only_text h k
only_text Padded E key text other h k = padded_only_text h k

pub only_key : {E D : List ℕ → List ℕ} (form : AgreedForm) (key other text : List ℕ) → AreInverse E D → IsWrapping form E key text → IsWrapping form E other text
    → other ≡ key
only_key (Plain iv) key other text inv h k = plain_only_key inv h k
only_key Padded key other text inv h k = padded_only_key inv h k

pub text_legal : {E D : List ℕ → List ℕ} (form : AgreedForm) (key text : List ℕ) → AreInverse E D → IsWrapping form E key text → IsTextLengthAs form (length text)
text_legal (Plain iv) key text inv h = plain_text_legal h
text_legal Padded key text inv h = padded_text_legal inv h

-- registers that hold a key are wrapped to a text to which the key belongs
pub found_wrapping : {E : List ℕ → List ℕ} (form : AgreedForm) (key before text : List ℕ) → IsIvAndKey form key before → PaddedRegisters E before text
    → IsWrapping form E key text
found_wrapping {E = E} (Plain iv) key before text holds run =
    let size : 24 ≤ length before =
    omega (arith, ap length holds.1, length-append (word_bytes iv) key, length-word_bytes iv, holds.0.1) in
    registers_plain iv key text holds.2 holds.0 (rw holds.1 at (registers_many size run))
found_wrapping Padded key before text holds run = registers_padded key before text holds.0 holds.1 run

-- and a text to which a key belongs is unwrapped to registers that hold it
pub wrapping_found : {E D : List ℕ → List ℕ} (form : AgreedForm) (key before text : List ℕ) → AreInverse E D → PaddedRegisters E before text
    → IsWrapping form E key text → IsIvAndKey form key before
wrapping_found (Plain iv) key before text inv run h =
    let size : 24 ≤ length (word_bytes iv ++ key) =
    omega (arith, length-append (word_bytes iv) key, length-word_bytes iv, h.legal.1) in
    (h.legal, padded_registers_backward inv run (many_registers size (plain_registers h)), wraps_iv h.wraps)
wrapping_found Padded key before text inv run h = (h.legal, padded_registers_backward inv run (padded_registers h))

-- the difference from the initial value
pub plain_holds : (iv found : ℕ) (registers : List ℕ) → IsWord iv → IsPlainTextLength (8 + length registers) → bit_xor found iv ≡ 0
    → IsIvAndKey (Plain iv) registers (word_bytes found ++ registers)
plain_holds iv found registers word legal zero =
    ((omega arith, omega arith, omega arith), ap (λ (v : ℕ). word_bytes v ++ registers) (xor_same found iv zero), word)

pub plain_differs : (iv found : ℕ) (registers : List ℕ) → IsWord found → ¬ (bit_xor found iv ≡ 0)
    → NoKey (IsIvAndKey (Plain iv)) (word_bytes found ++ registers)
plain_differs iv found registers word differs key holds =
    differs (same_xor found iv (word_front found iv registers key word holds.2 holds.1).0)

-- the three checks passed
pub padded_holds : (len : ℕ) (buffer : List ℕ) → HasKeyLength buffer len → (key : List ℕ) × IsIvAndKey Padded key buffer
padded_holds len buffer held = (take len (drop 8 buffer), (rw held.size held.legal, held.holds))

-- and if they do not pass, no key is held
pub padded_none_held : (buffer : List ℕ) → ((key : List ℕ) → IsPaddedKeyLength (length key) → ¬ IsAivAndKey buffer key) → NoKey (IsIvAndKey Padded) buffer
padded_none_held buffer none key holds = none key holds.0 holds.1

-- one word holds no plain key
pub one_word : (iv found : ℕ) (registers : List ℕ) → length registers ≡ 8 → NoKey (IsIvAndKey (Plain iv)) (word_bytes found ++ registers)
one_word iv found registers short key holds = absurd (omega (
  arith,
  ap length holds.1,
  length-append (word_bytes found) registers,
  length-append (word_bytes iv) key,
  length-word_bytes found,
  length-word_bytes iv,
  holds.0.1,
))

-- what holds a key in neither form
pub no_form : (iv : ℕ) (buffer : List ℕ) → NoKey (IsIvAndKey (Plain iv)) buffer → NoKey (IsIvAndKey Padded) buffer
    → (form : Form) → NoKey (IsIvAndKey (with_value form iv)) buffer
no_form iv buffer plain padded forms.Plain = plain
no_form iv buffer plain padded forms.Padded = padded

-- a plain key is held in the padded form too
pub to_padded : (iv found : ℕ) (registers key : List ℕ) → IsWord found → IsIvAndKey (Plain iv) key (word_bytes found ++ registers)
    → IsIvAndKey Padded key (word_bytes (aiv (length registers)) ++ registers)
to_padded iv found registers key word holds =
    let rest : registers ≡ key = (word_front found iv registers key word holds.2 holds.1).1 in
    let whole : padded key ≡ key = padded_whole key holds.0.0 in
    ((omega arith, omega arith), rw (rest, whole) refl)

-- the registers lent are all after the first word
pub behind_first : (buf : List ℕ) → take (length buf - 8) (drop 8 buf) ≡ drop 8 buf
behind_first buf = take_all (length buf - 8) (drop 8 buf) (omega (arith, length-drop 8 buf))
