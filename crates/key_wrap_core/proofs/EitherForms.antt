-- One key and one form belong to a text in either form, and what was found is that key.
use Rattle.std.proofs.Common.{◌≡◌, ◌⊎◌, ℕ, ◌%◌, ◌^◌, ◌≤◌, List, ◌++◌, length, take, drop, Result, Ok, Err, inl, inr, refl, sym, ap, subst, ◌∙◌, arith}
use Rattle.std.proofs.Math.Nat.{eq-or-lt_of_le}
use Rattle.std.proofs.lemmas.List.{take_all, drop_at}
use Rattle.block_pair.specs.Pair.{AreInverse}
use Rattle.block_pair.specs.Words.{IsWord}
use Rattle.key_wrap_core.specs.declared.faults.InPlaceFault.{InPlaceFault}
use Rattle.key_wrap_core.specs.declared.faults.InPlaceFault.TheVariants.{BadLength, Integrity}
use Rattle.key_wrap_core.specs.declared.forms.FoundKey.{FoundKey}
use Rattle.key_wrap_core.specs.declared.forms.Form.{Form}
use Rattle.key_wrap_core.specs.declared.forms.Form.TheVariants as forms
use Rattle.key_wrap_core.specs.declared.agreed_form.AgreedForm.{AgreedForm}
use Rattle.key_wrap_core.specs.declared.agreed_form.AgreedForm.TheVariants.{Plain, Padded}
use Rattle.key_wrap_core.specs.Words.{word_bytes}
use Rattle.key_wrap_core.specs.Lengths.{IsPaddedTextLength}
use Rattle.key_wrap_core.specs.Plain.{IsReserved}
use Rattle.key_wrap_core.specs.Padded.{aiv, padded}
use Rattle.key_wrap_core.specs.PaddedRegisters.{PaddedRegisters, HasKeyLength}
use Rattle.key_wrap_core.specs.NoKey.{NoKey}
use Rattle.key_wrap_core.specs.Forms.{IsWrappingWithIv, NoOtherForm, with_value}
use Rattle.key_wrap_core.specs.Found.{IsIvAndKey}
use Rattle.key_wrap_core.specs.EitherForm.{IsEither, IsOnlyWrapping, NoKeyIn}
use Rattle.key_wrap_core.specs.BufferCalls.{UnwrappingEither, Wrapping}
use Rattle.key_wrap_core.proofs.Refusals.{ok_or_err}
use Rattle.key_wrap_core.proofs.Spelling.{word_front, length-word_bytes}
use Rattle.key_wrap_core.proofs.FormLengths.{plain_text_legal, padded_text_legal}
use Rattle.key_wrap_core.proofs.PlainForm.{padded_whole}
use Rattle.key_wrap_core.proofs.PaddedForm.{aiv_word}
use Rattle.key_wrap_core.proofs.InPlaceForm.{held_size}
use Rattle.key_wrap_core.proofs.BothForms.{not_both_forms}
use Rattle.key_wrap_core.proofs.FoundForms.{only_key, only_text, wrapping_found, found_wrapping}

-- one key belongs to a text, in one form
pub one_either : {E D : List ℕ → List ℕ} (iv : ℕ) (form other_form : Form) (key other text : List ℕ) → AreInverse E D → ¬ IsReserved iv
    → IsWrappingWithIv form iv E key text → IsWrappingWithIv other_form iv E other text → (other_form ≡ form) × (other ≡ key)
one_either iv forms.Plain forms.Plain key other text inv free h k = (refl, only_key (Plain iv) key other text inv h k)
one_either iv forms.Padded forms.Padded key other text inv free h k = (refl, only_key Padded key other text inv h k)
one_either iv forms.Plain forms.Padded key other text inv free h k = absurd (not_both_forms inv free h k)
one_either iv forms.Padded forms.Plain key other text inv free h k = absurd (not_both_forms inv free k h)

pub only_wrapping : {E D : List ℕ → List ℕ} (iv : ℕ) (form : Form) (key text : List ℕ) → AreInverse E D → ¬ IsReserved iv → IsWrappingWithIv form iv E key text
    → IsOnlyWrapping (IsEither iv) E (with_value form iv) key text
only_wrapping {E = E} iv form key text inv free h = record {
  from = (form, refl);
  wrapping = h;
  only = λ other_form other own k.
      let same = one_either iv form own.0 key other text inv free h (rw own.1 at k) in (own.1 ∙ ap (λ (f : Form). with_value f iv) same.0, same.1);
  alone = λ other k. only_text (with_value form iv) E key text other h k;
}

-- the text has a legal length
pub either_legal : {E D : List ℕ → List ℕ} (iv : ℕ) (form : Form) (key text : List ℕ) → AreInverse E D → IsWrappingWithIv form iv E key text
    → IsPaddedTextLength (length text)
either_legal iv forms.Plain key text inv h = let legal = plain_text_legal h in (legal.0, omega (arith, legal.1), legal.2)
either_legal iv forms.Padded key text inv h = padded_text_legal inv h

-- and none in the other form, whatever the initial value
pub no_other_form : {E D : List ℕ → List ℕ} (iv : ℕ) (form : Form) (key text : List ℕ) → AreInverse E D → ¬ IsReserved iv → IsWrappingWithIv form iv E key text
    → NoOtherForm (with_value form iv) E text
no_other_form iv forms.Plain key text inv free h = λ other k. not_both_forms inv free h k
no_other_form iv forms.Padded key text inv free h = λ iv' word free' other k. not_both_forms inv free' k h

-- nothing was found
pub no_key_in : {E D : List ℕ → List ℕ} (iv : ℕ) (before text : List ℕ) → AreInverse E D → PaddedRegisters E before text
    → ((form : Form) → NoKey (IsIvAndKey (with_value form iv)) before) → NoKeyIn (IsEither iv) E text
no_key_in {E = E} iv before text inv run none = λ form own key h.
    none own.0 key (wrapping_found (with_value own.0 iv) key before text inv run (rw own.1 at h))

-- the registers are the key and its padding
pub held_padded : (form : AgreedForm) (found : ℕ) (registers key : List ℕ) → IsWord found → IsIvAndKey form key (word_bytes found ++ registers)
    → registers ≡ padded key
held_padded (Plain iv) found registers key word holds =
    (word_front found iv registers key word holds.2 holds.1).1 ∙ sym (padded_whole key holds.0.0)
held_padded Padded found registers key word holds =
    (word_front found (aiv (length key)) registers (padded key) word (aiv_word (length key) holds.0.1) holds.1).1

-- the key that was found, by the difference from a padded one
pub any_held : (iv found padded_key plain_key : ℕ) (registers : List ℕ) (key : FoundKey) → IsWord found → (plain_key ≡ 0) ⊎ (padded_key ≡ 0)
    → (plain_key ≡ 0 → IsIvAndKey (Plain iv) registers (word_bytes found ++ registers))
    → (padded_key ≡ 0 → HasKeyLength (word_bytes found ++ registers) (found % 2 ^ 32))
    → (padded_key ≡ 0 → (key.form ≡ forms.Padded) × (key.len ≡ found % 2 ^ 32)) → (¬ (padded_key ≡ 0) → (key.form ≡ forms.Plain) × (key.len ≡ length registers))
    → IsIvAndKey (with_value key.form iv) (take key.len registers) (word_bytes found ++ registers) × (length (take key.len registers) ≡ key.len)
    × (registers ≡ padded (take key.len registers))
any_held iv found padded_key plain_key registers key word some plain held told other =
    let least : 0 ≤ padded_key = omega arith in
    elim (eq-or-lt_of_le least) [
      | inl zero ↦ let k = told (sym zero) in
          let h = held (sym zero) in
          let size : length (take (found % 2 ^ 32) registers) ≡ found % 2 ^ 32 = held_size found (found % 2 ^ 32) registers h in
          let cut : drop 8 (word_bytes found ++ registers) ≡ registers = drop_at (word_bytes found) registers 8 (length-word_bytes found) in
          let holds : IsIvAndKey Padded (take (found % 2 ^ 32) registers) (word_bytes found ++ registers) =
          subst (λ (bs : List ℕ). IsIvAndKey Padded (take (found % 2 ^ 32) bs) (word_bytes found ++ registers)) cut (rw h.size h.legal, h.holds) in
          rw (k.0, k.1) (holds, size, held_padded Padded found registers (take (found % 2 ^ 32) registers) word holds)
      | inr more ↦ let k = other (λ e. absurd (omega arith)) in
          let zero : plain_key ≡ 0 = elim some [ inl e ↦ e | inr e ↦ absurd (omega arith) ] in
          let all : take (length registers) registers ≡ registers = take_all (length registers) registers (omega arith) in
          rw (k.0, k.1, all) (plain zero, refl, held_padded (Plain iv) found registers registers word (plain zero))
    ]

-- so what was found is what the call promises
pub either_found : {E D : List ℕ → List ℕ} {Legal : Type 0} (iv : ℕ) (found : FoundKey) (key : FoundKey → List ℕ) (text : List ℕ) → AreInverse E D
    → ¬ IsReserved iv → Legal → IsWrappingWithIv found.form iv E (key found) text → UnwrappingEither Legal iv E text key (Ok found)
either_found iv found key text inv free legal h =
    let wraps = only_wrapping iv found.form (key found) text inv free h in
    record {
      bad_length = (λ e. cc, λ bad. absurd (bad legal));
      integrity = (λ e. cc, λ no. absurd (no.1 (with_value found.form iv) wraps.from (key found) wraps.wrapping));
      answer = wraps;
      accepts = λ form other k. tt;
      other_form = no_other_form iv found.form (key found) text inv free h;
    }

-- and none
pub either_none : {E : List ℕ → List ℕ} {Legal : Type 0} (iv : ℕ) (key : FoundKey → List ℕ) (text : List ℕ) → Legal → NoKeyIn (IsEither iv) E text
    → UnwrappingEither Legal iv E text key (Err Integrity)
either_none iv key text legal none = record {
  bad_length = (λ e. cc, λ bad. absurd (bad legal));
  integrity = (λ e. (legal, none), λ no. refl);
  answer = tt;
  accepts = λ form other h. absurd (none (with_value form iv) (form, refl) other h);
  other_form = tt;
}

-- what the machine wraps, from an initial value and a key
pub wraps_found : {E D : List ℕ → List ℕ} {Legal : Type 0} (iv : ℕ) (form : Form) (key before old new : List ℕ) → AreInverse E D → ¬ IsReserved iv → Legal
    → IsIvAndKey (with_value form iv) key before → PaddedRegisters E before new → Wrapping Legal (with_value form iv) E key old new (Ok tt)
wraps_found {E = E} iv form key before old new inv free legal holds run =
    let h = found_wrapping (with_value form iv) key before new holds run in
    record {
      bad_length = (λ e. ok_or_err e, λ bad. absurd (bad legal));
      only_fault = tt;
      kept = λ e. ok_or_err e;
      answer = h;
      only_text = λ other k. only_text (with_value form iv) E key new other h k;
      other_form = no_other_form iv form key new inv free h;
    }

-- the same lengths, said in another way
pub either_legally : {Legal Legal' : Type 0} {iv : ℕ} {E : List ℕ → List ℕ} {text : List ℕ} {key : FoundKey → List ℕ} (answer : Result FoundKey InPlaceFault)
    → Legal → Legal' → UnwrappingEither Legal iv E text key answer → UnwrappingEither Legal' iv E text key answer
either_legally (Ok found) legal legal' u = record {
  bad_length = (λ e. cc, λ bad. absurd (bad legal'));
  integrity = (λ e. cc, λ no. absurd (let wrong = u.integrity.1 (legal, no.1) in cc));
  answer = u.answer;
  accepts = u.accepts;
  other_form = u.other_form;
}
either_legally (Err BadLength) legal legal' u = absurd (u.bad_length.0 refl legal)
either_legally {iv = iv} {text = text} {key = key} (Err Integrity) legal legal' u = either_none iv key text legal' (u.integrity.0 refl).1
