-- What a call promises under a KEK that is not refused, from what key_wrap_core ensures of its outcome.
use Rattle.std.proofs.Common.{◌≡◌, ◌↔◌, ℕ, List, refl, All, Result, Ok, Err, rules, subst, ◌∙◌}
use lib.IntN.{ℤ}
use mir.Syntax.{w32}
use mir.Val.{SFits, of_z, to_z}
use Rattle.std.proofs.lemmas.Int.{to_z-of_z}
use Rattle.std.specs.Prelude.{IfOk, OnOk, IsOkUnless}
use Rattle.key_wrap_core.specs.declared.faults.InPlaceFault.{InPlaceFault}
use Rattle.key_wrap_core.specs.declared.faults.InPlaceFault.TheVariants.{BadLength, Integrity}
use Rattle.key_wrap_core.specs.NoKey.{NoKey}
use Rattle.key_wrap_core.specs.InPlace.{KeyAnswer}
use Rattle.keywrap_calls.specs.Keks.{IsKek}
use Rattle.keywrap_calls.specs.Status.{outcome_status}
use Rattle.keywrap_calls.specs.Calls.{IsWrapCall, IsUnwrapCall, IsCallWith}
use Rattle.keywrap_calls.specs.AgreedValue.{IsIv}
use Rattle.keywrap_calls.specs.CallAnswers.{IsUnwrapAnswer}

-- a wrap; lengths that are not refused are legal
pub wraps : (Legal : Type 0) (Relates : List ℕ → List ℕ → Type 0) (kek key old new : List ℕ) (outcome : Result (Unit {0}) InPlaceFault)
    → IsKek kek → (¬ (¬ Legal) → Legal) → ((outcome ≡ Err BadLength) ↔ ¬ Legal) → IsOkUnless outcome BadLength
    → (outcome ≡ Err BadLength → new ≡ old)
    → OnOk outcome (Relates key new) → OnOk outcome ((other : List ℕ) → Relates key other → other ≡ new)
    → IsWrapCall Legal Relates kek key old new (outcome_status outcome)
wraps Legal Relates kek key old new (Ok _) legal_kek legal refused only kept wrapping only_text =
    let fits : Legal = legal (λ no. absurd (let wrong = refused.1 no in cc)) in
    record {
      statuses = search rules;
      bad_kek = (λ s. absurd (let wrong = s in cc), λ no. absurd (no legal_kek));
      bad_length = (λ s. absurd (let wrong = s in cc), λ they. absurd (they.1 fits));
      done = (λ _. (legal_kek, fits), λ _. refl);
      kept = λ no. absurd (no refl);
      answer = λ _. record { wrapping = wrapping; only_text = only_text };
    }
wraps Legal Relates kek key old new (Err BadLength) legal_kek legal refused only kept wrapping only_text =
    let unfit : ¬ Legal = refused.0 refl in
    record {
      statuses = search rules;
      bad_kek = (λ s. absurd (let wrong = s in cc), λ no. absurd (no legal_kek));
      bad_length = (λ _. (legal_kek, unfit), λ _. refl);
      done = (λ s. absurd (let wrong = s in cc), λ they. absurd (unfit they.1));
      kept = λ _. kept refl;
      answer = λ s. absurd (let wrong = s in cc);
    }
wraps Legal Relates kek key old new (Err Integrity) legal_kek legal refused only kept wrapping only_text = absurd (let wrong = only in cc)

-- an unwrap
pub unwraps : {A : Type 0} (Legal : Type 0) (Relates Other : List ℕ → List ℕ → Type 0) (kek text key old new : List ℕ)
    (outcome : Result A InPlaceFault) (found : A → List ℕ)
    → IsKek kek → KeyAnswer Legal Relates text found outcome
    → IfOk outcome (λ m. (other : List ℕ) → Relates other text → other ≡ found m)
    → IfOk outcome (λ m. (other : List ℕ) → Relates (found m) other → other ≡ text) → OnOk outcome (NoKey Other text)
    → (outcome ≡ Err BadLength → new ≡ old) → (outcome ≡ Err Integrity → All (λ byte. byte ≡ 0) new)
    → ((m : A) → outcome ≡ Ok m → found m ≡ key)
    → IsUnwrapCall Legal Relates Other kek text key old new (outcome_status outcome)
unwraps Legal Relates Other kek text key old new (Ok m) found legal_kek told only_key restores other_form kept cleared is =
    let answer : IsUnwrapAnswer Relates Other text (found m) =
    record { wrapping = told.1; only_key = only_key; restores = restores; other_form = other_form } in
    record {
      statuses = search rules;
      bad_kek = (λ s. absurd (let wrong = s in cc), λ no. absurd (no legal_kek));
      bad_length = (λ s. absurd (let wrong = s in cc), λ they. absurd (they.1 told.0));
      done = λ _. (legal_kek, told.0);
      integrity = (λ s. absurd (let wrong = s in cc), λ they. absurd (they.2 (found m) told.1));
      kept_at_bad_kek = λ s. absurd (let wrong = s in cc);
      kept_at_bad_length = λ s. absurd (let wrong = s in cc);
      cleared = λ s. absurd (let wrong = s in cc);
      answer = λ _. subst (λ (k : List ℕ). IsUnwrapAnswer Relates Other text k) (is m refl) answer;
      accepts = λ _ _ _ _. refl;
    }
unwraps Legal Relates Other kek text key old new (Err BadLength) found legal_kek told only_key restores other_form kept cleared is =
    record {
      statuses = search rules;
      bad_kek = (λ s. absurd (let wrong = s in cc), λ no. absurd (no legal_kek));
      bad_length = (λ _. (legal_kek, told), λ _. refl);
      done = λ s. absurd (let wrong = s in cc);
      integrity = (λ s. absurd (let wrong = s in cc), λ they. absurd (told they.1));
      kept_at_bad_kek = λ s. absurd (let wrong = s in cc);
      kept_at_bad_length = λ _. kept refl;
      cleared = λ s. absurd (let wrong = s in cc);
      answer = λ s. absurd (let wrong = s in cc);
      accepts = λ _ _ fits _. absurd (told fits);
    }
unwraps Legal Relates Other kek text key old new (Err Integrity) found legal_kek told only_key restores other_form kept cleared is =
    record {
      statuses = search rules;
      bad_kek = (λ s. absurd (let wrong = s in cc), λ no. absurd (no legal_kek));
      bad_length = (λ s. absurd (let wrong = s in cc), λ they. absurd (they.1 told.0));
      done = λ s. absurd (let wrong = s in cc);
      integrity = (λ _. (legal_kek, told.0, told.1), λ _. refl);
      kept_at_bad_kek = λ s. absurd (let wrong = s in cc);
      kept_at_bad_length = λ s. absurd (let wrong = s in cc);
      cleared = λ _. cleared refl;
      answer = λ s. absurd (let wrong = s in cc);
      accepts = λ other _ _ wrapping. absurd (told.1 other wrapping);
    }

-- a status that is passed on is what it was
pub passed_on : {status other : ℤ} → SFits w32 status → status ≡ other → to_z w32 (of_z w32 status) ≡ other
passed_on fits same = to_z-of_z _ _ fits ∙ same

-- a call under an initial value that is not refused
pub called_with : (Call : Type 0) (iv old new : List ℕ) (outcome : Result (Unit {0}) InPlaceFault) → IsIv iv → Call
    → IsCallWith Call iv old new (outcome_status outcome)
called_with Call iv old new (Ok _) is_iv call =
    record { bad_iv = (λ s. absurd (let wrong = s in cc), λ no. absurd (no is_iv)); kept_at_bad_iv = λ s. absurd (let wrong = s in cc); call = λ _. call }
called_with Call iv old new (Err BadLength) is_iv call =
    record { bad_iv = (λ s. absurd (let wrong = s in cc), λ no. absurd (no is_iv)); kept_at_bad_iv = λ s. absurd (let wrong = s in cc); call = λ _. call }
called_with Call iv old new (Err Integrity) is_iv call =
    record { bad_iv = (λ s. absurd (let wrong = s in cc), λ no. absurd (no is_iv)); kept_at_bad_iv = λ s. absurd (let wrong = s in cc); call = λ _. call }
