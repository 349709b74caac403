-- What a call for many keys promises of a slot that was wrapped or unwrapped beside others.
use Rattle.std.proofs.Common.{◌≡◌, ℕ, List, ◌++◌, length, take, drop, replicate, pos, Result, Ok, Err, refl, sym, ap, ◌∙◌, arith, length-drop}
use Rattle.std.proofs.lemmas.List.{take_all, take_at, drop_at}
use Rattle.key_wrap_core.specs.declared.forms.Form.{Form}
use Rattle.key_wrap_core.specs.declared.forms.Form.TheVariants as forms
use Rattle.key_wrap_core.specs.declared.faults.InPlaceFault.{InPlaceFault}
use Rattle.key_wrap_core.specs.declared.faults.InPlaceFault.TheVariants.{BadLength, Integrity}
use Rattle.key_wrap_core.specs.Forms.{IsDefaultWrapping}
use Rattle.key_wrap_core.specs.InPlace.{key_in}
use Rattle.key_wrap_core.specs.Lengths.{IsPlainTextLength, IsPaddedTextLength}
use Rattle.key_wrap_core.specs.Plain.{Plain, default_iv}
use Rattle.key_wrap_core.specs.Padded.{Padded}
use Rattle.key_wrap_core.proofs.PlainForm.{padded_whole, plain_only_text}
use Rattle.key_wrap_core.proofs.PaddedForm.{padded_only_text}
use Rattle.key_wrap_core.proofs.Unwrappings.{default_among}
use Rattle.lane_runs.specs.Texts.{IsKeyRoom, IsUnwrapped, UnwrapsText, text_status, found_len}
use Rattle.keywrap_calls.specs.Keks.{IsKek}
use Rattle.keywrap_calls.specs.Many.{IsKeySlot, WrapsSlot, UnwrapsSlot, UnwrapsPlainSlot, UnwrapsPaddedSlot}
use Rattle.keywrap_calls.proofs.CallPromises.{wraps, unwraps}
use Rattle.keywrap_calls.proofs.Lengths.{plain_text-not_refused, room-not_refused}

-- the lengths of a slot are those of a text
pub key_room : (form : Form) (key_len len : ℕ) → IsKeySlot form key_len len → IsKeyRoom form key_len len
key_room forms.Plain key_len len room = room
key_room forms.Padded key_len len room = room

-- the slot is the wrapping of the key that was in it
pub slot_wrapped : (form : Form) (E : List ℕ → List ℕ) (kek : List ℕ) (key_len : ℕ) (old new : List ℕ) → IsKek kek → IsKeySlot form key_len (length old)
    → IsDefaultWrapping form E (key_in key_len old) new → WrapsSlot form E kek key_len old new (pos 0)
slot_wrapped forms.Plain E kek key_len old new legal_kek room wrapping =
    let whole : key_in key_len old ≡ drop 8 old = take_all key_len (drop 8 old) (omega (arith, length-drop 8 old, room.1)) in
    let is : Plain E default_iv (drop 8 old) new = rw whole at wrapping in
    let fits : IsPlainTextLength (length old) = (omega (arith, room.1, room.0.0), omega (arith, room.1, room.0.1), omega (arith, room.1, room.0.2)) in
    wraps (IsPlainTextLength (length old)) (Plain E default_iv) kek (drop 8 old) old new (Ok tt) legal_kek (plain_text-not_refused _)
    (λ e. absurd (let wrong = e in cc), λ no. absurd (no fits)) tt (λ e. absurd (let wrong = e in cc)) is (λ other k. plain_only_text is k)
slot_wrapped forms.Padded E kek key_len old new legal_kek room wrapping =
    wraps _ (Padded E) kek (key_in key_len old) old new (Ok tt) legal_kek (room-not_refused key_len (length old))
    (λ e. absurd (let wrong = e in cc), λ no. absurd (no room)) tt (λ e. absurd (let wrong = e in cc)) wrapping (λ other k. padded_only_text wrapping k)

-- a key that was found has one length
abbrev gave : ℕ → Result ℕ InPlaceFault
gave m = Ok m

same_key : (buffer : List ℕ) (m n : ℕ) → gave m ≡ gave n → key_in n buffer ≡ key_in m buffer
same_key buffer m n e = let same : n ≡ m = cc (e) in ap (λ (k : ℕ). key_in k buffer) same

-- the slot holds 8 zero bytes and the key, or zeros
plain_unwrapped : (E : List ℕ → List ℕ) (kek old new : List ℕ) (result : Result ℕ InPlaceFault) → IsKek kek → IsUnwrapped forms.Plain E old new result
    → UnwrapsPlainSlot E kek old new (found_len result) (pos (text_status result))
plain_unwrapped E kek old new (Ok m) legal_kek u =
    let key : List ℕ = key_in m new in
    let is : Plain E default_iv key old = u.unwraps.answer.1 in
    let around : new ≡ replicate 8 0 ++ key = u.key.around ∙ ap (λ (k : List ℕ). replicate 8 0 ++ k) (padded_whole key is.legal.0) in
    let behind : drop 8 new ≡ key = ap (drop 8) around ∙ drop_at (replicate 8 0) key 8 refl in
    let found : (n : ℕ) → gave m ≡ gave n → key_in n new ≡ drop 8 new = λ n e. same_key new m n e ∙ sym behind in
    record {
      call = unwraps (IsPlainTextLength (length old)) (Plain E default_iv) (Padded E) kek old (drop 8 new) old new (Ok m) (λ k. key_in k new) legal_kek u.unwraps.answer
          u.unwraps.only_key u.unwraps.restores u.unwraps.other_form (λ e. absurd (let wrong = e in cc)) (λ e. absurd (let wrong = e in cc)) found;
      first_word = λ _. ap (take 8) around ∙ take_at (replicate 8 0) key 8 refl;
      key_len_is = λ _. sym (ap length behind ∙ u.key.size);
      no_key = λ no. absurd (no refl);
    }
plain_unwrapped E kek old new (Err BadLength) legal_kek u = absurd (let wrong = u.only_fault in cc)
plain_unwrapped E kek old new (Err Integrity) legal_kek u = record {
  call = unwraps (IsPlainTextLength (length old)) (Plain E default_iv) (Padded E) kek old (drop 8 new) old new (Err Integrity) (λ k. key_in k new) legal_kek u.unwraps.answer
      u.unwraps.only_key u.unwraps.restores u.unwraps.other_form (λ e. absurd (let wrong = e in cc)) (λ e. u.cleared refl) (λ n e. absurd (let wrong = e in cc));
  first_word = λ s. absurd (let wrong = s in cc);
  key_len_is = λ s. absurd (let wrong = s in cc);
  no_key = λ _. refl;
}

padded_unwrapped : (E : List ℕ → List ℕ) (kek old new : List ℕ) (result : Result ℕ InPlaceFault) → IsKek kek → IsUnwrapped forms.Padded E old new result
    → UnwrapsPaddedSlot E kek old new (found_len result) (pos (text_status result))
padded_unwrapped E kek old new (Ok m) legal_kek u =
    record {
      call = unwraps (IsPaddedTextLength (length old)) (Padded E) (Plain E default_iv) kek old (key_in m new) old new (Ok m) (λ k. key_in k new) legal_kek u.unwraps.answer
          u.unwraps.only_key u.unwraps.restores (default_among {F = InPlaceFault} E old (Ok m) u.unwraps.other_form) (λ e. absurd (let wrong = e in cc))
          (λ e. absurd (let wrong = e in cc)) (same_key new m);
      key = record { no_key = λ no. absurd (no refl); other_values = λ _. u.unwraps.other_form; size = λ _. u.key.size; around = λ _. u.key.around };
    }
padded_unwrapped E kek old new (Err BadLength) legal_kek u = absurd (let wrong = u.only_fault in cc)
padded_unwrapped E kek old new (Err Integrity) legal_kek u = record {
  call = unwraps (IsPaddedTextLength (length old)) (Padded E) (Plain E default_iv) kek old (key_in 0 new) old new (Err Integrity) (λ k. key_in k new) legal_kek u.unwraps.answer
      u.unwraps.only_key u.unwraps.restores (default_among {A = ℕ} E old (Err Integrity) u.unwraps.other_form) (λ e. absurd (let wrong = e in cc))
      (λ e. u.cleared refl) (λ n e. absurd (let wrong = e in cc));
  key = record {
    no_key = λ _. refl;
    other_values = λ s. absurd (let wrong = s in cc);
    size = λ s. absurd (let wrong = s in cc);
    around = λ s. absurd (let wrong = s in cc);
  };
}

pub slot_unwrapped : (form : Form) (E : List ℕ → List ℕ) (kek old new : List ℕ) (key_len status : ℕ) → IsKek kek → UnwrapsText form E old new key_len status
    → UnwrapsSlot form E kek old new key_len (pos status)
slot_unwrapped forms.Plain E kek old new key_len status legal_kek u = rw (u.status_is, u.key_len_is) (plain_unwrapped E kek old new u.result legal_kek u.unwrapped)
slot_unwrapped forms.Padded E kek old new key_len status legal_kek u = rw (u.status_is, u.key_len_is) (padded_unwrapped E kek old new u.result legal_kek u.unwrapped)
