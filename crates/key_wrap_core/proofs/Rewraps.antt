-- The one rewrapping, over all forms at once: what fixes what, and which keys fit the new form.
use Rattle.std.proofs.Common.{◌≡◌, ◌↔◌, ℕ, ◌+◌, ◌-◌, ◌%◌, ◌^◌, List, length, ◌++◌, refl, sym, ap, ◌∙◌, arith, bit_xor}
use Rattle.std.specs.Prelude.{bit_or}
use Rattle.block_pair.specs.Pair.{AreInverse}
use Rattle.block_pair.specs.Words.{IsWord}
use Rattle.key_wrap_core.specs.declared.agreed_form.AgreedForm.{AgreedForm}
use Rattle.key_wrap_core.specs.declared.agreed_form.AgreedForm.TheVariants.{Plain, Padded}
use Rattle.key_wrap_core.specs.declared.rewrapping.RewrapForms.{RewrapForms}
use Rattle.key_wrap_core.specs.declared.rewrapping.RewrapForms.TheVariants.{Kept, Changed}
use Rattle.key_wrap_core.specs.declared.faults.Refusal.{Refusal}
use Rattle.key_wrap_core.specs.declared.faults.Refusal.TheVariants.{BadLength, Integrity, KeyNotPlain}
use Rattle.key_wrap_core.specs.Words.{word_bytes}
use Rattle.key_wrap_core.specs.Lengths.{IsPlainKeyLength, IsPaddedTextLength}
use Rattle.key_wrap_core.specs.Plain.{default_iv}
use Rattle.key_wrap_core.specs.Forms.{IsWrapping, IsKeyLengthAs}
use Rattle.key_wrap_core.specs.Found.{IsIvAndKey}
use Rattle.key_wrap_core.specs.EitherForm.{NoKeyIn}
use Rattle.key_wrap_core.specs.Rewrap.{IsFrom, IsOldWrapping, HasFault, to_form, to_itself}
use Rattle.key_wrap_core.specs.Private.{Fits, IsFound}
use Rattle.key_wrap_core.proofs.PlainForm.{default_free, padded_whole}
use Rattle.key_wrap_core.proofs.ThreeChecks.{held_word}
use Rattle.key_wrap_core.proofs.Differences.{or_parts, or_both, xor_same, same_xor}
use Rattle.key_wrap_core.proofs.FoundForms.{only_key, only_text, text_legal, found_wrapping}
use Rattle.key_wrap_core.proofs.EitherForms.{held_padded, only_wrapping}

pub wrapping_of : {E D : List ℕ → List ℕ} (forms : RewrapForms) (form : AgreedForm) (key text : List ℕ) → AreInverse E D → IsFrom forms form
    → IsWrapping form E key text → IsOldWrapping forms E form key text
wrapping_of Kept form key text inv from h = rw from.1 (only_wrapping default_iv from.0 key text inv default_free (rw from.1 at h))
wrapping_of {E = E} (Changed old new) form key text inv from h = record {
  from = from;
  wrapping = h;
  only = λ other_form other from' k. (from' ∙ sym from, only_key old key other text inv (rw from at h) (rw from' at k));
  alone = λ other k. only_text form E key text other h k;
}

pub old_of : {E D : List ℕ → List ℕ} (forms : RewrapForms) (text before : List ℕ) → AreInverse E D → (found : IsFound forms E text before)
    → IsOldWrapping forms E found.0 found.2 text
old_of forms text before inv found =
    wrapping_of forms found.0 found.2 text inv found.1 (found_wrapping found.0 found.2 before text found.3 found.4)

pub from_itself : (forms : RewrapForms) (form : AgreedForm) → IsFrom forms form → IsFrom (to_itself forms) (to_form forms form)
from_itself Kept form from = from
from_itself (Changed old new) form from = refl

-- a key whose length is legal in the plain form is held in it
pub fits_plain : (form : AgreedForm) (iv found misfit : ℕ) (registers key : List ℕ) → IsWord found → IsWord iv
    → IsIvAndKey form key (word_bytes found ++ registers) → (misfit ≡ 0) ↔ IsPlainKeyLength (length key) → Fits (Plain iv) key registers misfit iv
fits_plain form iv found misfit registers key word word' holds fits = record {
  fits = fits;
  holds = λ plain. (plain, ap (λ (bs : List ℕ). word_bytes iv ++ bs) (held_padded form found registers key word holds ∙ padded_whole key plain.0), word');
}

-- a key is held in its own form
pub fits_own : (form : AgreedForm) (iv : ℕ) (registers key : List ℕ) → IsIvAndKey form key (word_bytes iv ++ registers) → Fits form key registers 0 iv
fits_own (Plain value) iv registers key holds = record { fits = (λ _. holds.0, λ _. refl); holds = λ _. holds }
fits_own Padded iv registers key holds = record { fits = (λ _. holds.0, λ _. refl); holds = λ _. holds }

-- the difference from a length that is legal in the plain form
pub plain_misfit : (one_word found : ℕ) (registers key : List ℕ) → IsWord found → IsPaddedTextLength (8 + length registers)
    → (length registers - 8 ≡ 0 → one_word ≡ 1) → (¬ (length registers - 8 ≡ 0) → one_word ≡ 0) → IsIvAndKey Padded key (word_bytes found ++ registers)
    → (bit_or one_word (bit_xor (found % 2 ^ 32) (length registers)) ≡ 0) ↔ IsPlainKeyLength (length key)
plain_misfit one_word found registers key word legal short long holds =
    let h = held_word found registers key word holds.0 holds.1 in
    let given : ℕ = found % 2 ^ 32 in (
      λ zero.
          let parts = or_parts one_word (bit_xor given (length registers)) zero in
          let same : given ≡ length registers = xor_same given (length registers) parts.1 in
          let size : length key ≡ length registers = omega (arith, h.1, same) in
          let more : ¬ (length registers ≡ 8) = λ e. absurd (omega (arith, parts.0, short (omega (arith, e)))) in
          (omega (arith, legal.0, size), omega (arith, legal, size, more), omega (arith, legal.2, size)),
      λ plain. or_both one_word (bit_xor given (length registers)) (long (λ zero. absurd (omega (arith, zero, h.3, plain.1, legal.1))))
          (same_xor given (length registers) (omega (arith, h.1, h.2, h.3, plain.0, legal.0))),
    )

-- a text to which a key belongs is refused only for the length of that key
pub only_fault : {E D : List ℕ → List ℕ} (forms : RewrapForms) (form : AgreedForm) (key text : List ℕ) (fault : Refusal) → AreInverse E D
    → IsOldWrapping forms E form key text → HasFault forms E text fault → (fault ≡ KeyNotPlain) × ¬ IsKeyLengthAs (to_form forms form) (length key)
only_fault forms form key text BadLength inv w bad = absurd (bad (form, w.from, text_legal form key text inv w.wrapping))
only_fault forms form key text Integrity inv w none = absurd (none.1 form w.from key w.wrapping)
only_fault forms form key text KeyNotPlain inv w bad =
    let same = w.only bad.0 bad.1 bad.2.from bad.2.wrapping in (refl, rw (same.0, same.1) at bad.3)

-- so a text that is refused for another cause is no wrapping
pub no_old : {E D : List ℕ → List ℕ} (forms : RewrapForms) (text : List ℕ) (fault : Refusal) → AreInverse E D → HasFault forms E text fault
    → ¬ (fault ≡ KeyNotPlain) → NoKeyIn (IsFrom forms) E text
no_old forms text fault inv has other = λ form from key h.
    other (only_fault forms form key text fault inv (wrapping_of forms form key text inv from h) has).0
