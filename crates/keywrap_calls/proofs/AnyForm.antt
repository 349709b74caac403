-- What the unwrap in either form promises under a KEK that is not refused.
use Rattle.std.proofs.Common.{◌≡◌, ◌↔◌, inl, inr, ◌<◌, ℕ, List, length, take, refl, sym, subst, All, Result, Ok, Err, pos, arith, rules}
use Rattle.std.specs.Prelude.{IsOkUnless}
use Rattle.key_wrap_core.specs.declared.forms.Form.{Form}
use Rattle.key_wrap_core.specs.declared.forms.FoundKey.{FoundKey}
use Rattle.key_wrap_core.specs.declared.faults.InPlaceFault.{InPlaceFault}
use Rattle.key_wrap_core.specs.declared.faults.InPlaceFault.TheVariants.{BadLength, Integrity}
use Rattle.key_wrap_core.specs.InPlace.{ArePaddedLengths}
use Rattle.key_wrap_core.specs.Padded.{padded}
use Rattle.key_wrap_core.specs.Plain.{default_iv}
use Rattle.key_wrap_core.specs.Forms.{IsWrappingWithIv, NoOtherForm, by_default, with_value}
use Rattle.key_wrap_core.specs.EitherForm.{IsEither, IsOnlyWrapping, NoKeyIn}
use Rattle.keywrap_calls.specs.Keks.{IsKek}
use Rattle.keywrap_calls.specs.Status.{fault_status}
use Rattle.keywrap_calls.specs.Any.{UnwrapsAny, form_of}

-- the outcomes
abbrev pub gave : FoundKey → Result FoundKey InPlaceFault
gave found = Ok found

abbrev pub refusal : InPlaceFault → Result FoundKey InPlaceFault
refusal fault = Err fault

module _ (E : List ℕ → List ℕ) (kek text old new : List ℕ) (iv : ℕ) (default : iv ≡ default_iv) (legal_kek : IsKek kek) where
  pub found_any : (found : FoundKey) (flag : ℕ) → ((gave found ≡ Err BadLength) ↔ ¬ ArePaddedLengths (length old) (length text))
      → ((gave found ≡ Err Integrity) ↔ (ArePaddedLengths (length old) (length text) × NoKeyIn (IsEither iv) E text))
      → form_of flag ≡ found.form → flag < 2 → IsOnlyWrapping (IsEither iv) E (with_value found.form iv) (take found.len new) text
      → NoOtherForm (with_value found.form iv) E text → length (take found.len new) ≡ found.len → new ≡ padded (take found.len new)
      → UnwrapsAny E kek text old new flag found.len (pos 0)
  found_any found flag room integrity is small answer other_form size buffer =
      record {
        statuses = search rules;
        bad_kek = (λ s. absurd (let wrong = s in cc), λ none. absurd (none legal_kek));
        bad_length = (λ s. absurd (let wrong = s in cc), λ they. absurd (let wrong = room.1 they.1 in cc));
        integrity = (
          λ s. absurd (let wrong = s in cc),
          λ they.
              absurd (let wrong = integrity.1 (they.1, subst (λ v. NoKeyIn (IsEither v) E text) (sym default) they.2) in cc),
        );
        answer = λ _. subst (λ f. IsOnlyWrapping (IsEither default_iv) E (by_default f) (take found.len new) text) (sym is)
            (subst (λ v. IsOnlyWrapping (IsEither v) E (with_value found.form v) (take found.len new) text) default answer);
        other_form = λ _. subst (λ f. NoOtherForm (by_default f) E text) (sym is) (subst (λ v. NoOtherForm (with_value found.form v) E text) default other_form);
        accepts = λ _ _ _ _ _. refl;
        size = λ _. size;
        buffer = λ _. buffer;
        flag = small;
        none = λ not_done. absurd (not_done refl);
        kept = λ s. absurd (elim s [ inl x ↦ let wrong = x in cc | inr x ↦ let wrong = x in cc ]);
        cleared = λ s. absurd (let wrong = s in cc);
      }

  pub refused_any : (fault : InPlaceFault) → ((refusal fault ≡ Err BadLength) ↔ ¬ ArePaddedLengths (length old) (length text))
      → ((refusal fault ≡ Err Integrity) ↔ (ArePaddedLengths (length old) (length text) × NoKeyIn (IsEither iv) E text))
      → ((form : Form) (key : List ℕ) → IsWrappingWithIv form iv E key text → IsOkUnless (refusal fault) BadLength)
      → (refusal fault ≡ Err BadLength → new ≡ old) → (refusal fault ≡ Err Integrity → All (λ byte. byte ≡ 0) new)
      → UnwrapsAny E kek text old new 0 0 (fault_status fault)
  refused_any BadLength bad_length integrity accepts kept cleared = record {
    statuses = search rules;
    bad_kek = (λ s. absurd (let wrong = s in cc), λ none. absurd (none legal_kek));
    bad_length = (λ _. (legal_kek, bad_length.0 refl), λ _. refl);
    integrity = (λ s. absurd (let wrong = s in cc), λ they. absurd (bad_length.0 refl they.1));
    answer = λ s. absurd (let wrong = s in cc);
    other_form = λ s. absurd (let wrong = s in cc);
    accepts = λ _ _ _ fits _. absurd (bad_length.0 refl fits);
    size = λ s. absurd (let wrong = s in cc);
    buffer = λ s. absurd (let wrong = s in cc);
    flag = omega arith;
    none = λ _. (refl, refl);
    kept = λ _. kept refl;
    cleared = λ s. absurd (let wrong = s in cc);
  }
  refused_any Integrity bad_length integrity accepts kept cleared = record {
    statuses = search rules;
    bad_kek = (λ s. absurd (let wrong = s in cc), λ none. absurd (none legal_kek));
    bad_length = (λ s. absurd (let wrong = s in cc), λ they. absurd (they.1 (integrity.0 refl).0));
    integrity = (λ _. (legal_kek, (integrity.0 refl).0, subst (λ v. NoKeyIn (IsEither v) E text) default (integrity.0 refl).1), λ _. refl);
    answer = λ s. absurd (let wrong = s in cc);
    other_form = λ s. absurd (let wrong = s in cc);
    accepts = λ form key _ _ wrapping. absurd (let wrong = accepts form key (subst (λ v. IsWrappingWithIv form v E key text) (sym default) wrapping) in cc);
    size = λ s. absurd (let wrong = s in cc);
    buffer = λ s. absurd (let wrong = s in cc);
    flag = omega arith;
    none = λ _. (refl, refl);
    kept = λ s. absurd (elim s [ inl x ↦ let wrong = x in cc | inr x ↦ let wrong = x in cc ]);
    cleared = λ _. cleared refl;
  }
