-- What the call that finds a kind promises for each kind, under a KEK that is not refused.
use Rattle.std.proofs.Common.{◌≡◌, ℕ, List, length, refl, All, rules, pos}
use Rattle.key_wrap_core.specs.declared.forms.Kind.TheVariants as kinds
use Rattle.key_wrap_core.specs.Lengths.{IsPaddedTextLength}
use Rattle.key_wrap_core.specs.Plain.{Plain, default_iv}
use Rattle.key_wrap_core.specs.Padded.{Padded}
use Rattle.key_wrap_core.specs.Kind.{IsKindOf, NoOtherKey}
use Rattle.keywrap_calls.specs.Keks.{IsKek}
use Rattle.keywrap_calls.specs.KindCalls.{FindsKind, HasScratch}

module _ (E : List ℕ → List ℕ) (kek text old new : List ℕ) (legal_kek : IsKek kek)
    (room : HasScratch (length text) (length old)) (kept : ¬ IsPaddedTextLength (length text) → new ≡ old)
    (cleared : IsPaddedTextLength (length text) → All (λ byte. byte ≡ 0) new) where
  pub finds_plain : (m : ℕ) → IsKindOf E text (kinds.Plain m) → NoOtherKey E text (kinds.Plain m)
      → ((key : List ℕ) → Plain E default_iv key text → kinds.Plain m ≡ kinds.Plain (length key))
      → FindsKind E kek text old new 0 m (pos 0)
  finds_plain m answer other_form is_plain = record {
    statuses = search rules;
    bad_kek = (λ s. absurd (let wrong = s in cc), λ no. absurd (no legal_kek));
    bad_length = (λ s. absurd (let wrong = s in cc), λ they. absurd (they.1 room));
    integrity = (λ s. absurd (let wrong = s in cc), λ they. absurd (they.2 answer.0 answer.2));
    done = λ _. (legal_kek, room);
    answer = λ _. answer;
    other_form = λ _. other_form;
    plain = λ key _ _ wrapping. (refl, refl, let same = is_plain key wrapping in cc);
    padded = λ key _ _ wrapping. absurd (other_form key wrapping);
    none = λ no. absurd (no refl);
    kept_at_bad_kek = λ s. absurd (let wrong = s in cc);
    kept_at_bad_length = λ s. absurd (let wrong = s in cc);
    kept_at_other_length = kept;
    cleared = λ legal _. cleared legal;
  }

  pub finds_padded : (m : ℕ) → IsKindOf E text (kinds.Padded m) → NoOtherKey E text (kinds.Padded m)
      → ((key : List ℕ) → Plain E default_iv key text → kinds.Padded m ≡ kinds.Plain (length key))
      → ((key : List ℕ) → Padded E key text → kinds.Padded m ≡ kinds.Padded (length key))
      → FindsKind E kek text old new 1 m (pos 0)
  finds_padded m answer other_form is_plain is_padded = record {
    statuses = search rules;
    bad_kek = (λ s. absurd (let wrong = s in cc), λ no. absurd (no legal_kek));
    bad_length = (λ s. absurd (let wrong = s in cc), λ they. absurd (they.1 room));
    integrity = (λ s. absurd (let wrong = s in cc), λ they. absurd (they.3 answer.0 answer.2));
    done = λ _. (legal_kek, room);
    answer = λ _. answer;
    other_form = λ _. other_form;
    plain = λ key _ _ wrapping. absurd (let wrong = is_plain key wrapping in cc);
    padded = λ key _ _ wrapping. (refl, refl, let same = is_padded key wrapping in cc);
    none = λ no. absurd (no refl);
    kept_at_bad_kek = λ s. absurd (let wrong = s in cc);
    kept_at_bad_length = λ s. absurd (let wrong = s in cc);
    kept_at_other_length = kept;
    cleared = λ legal _. cleared legal;
  }

  pub finds_neither : IsKindOf E text kinds.Neither → FindsKind E kek text old new 0 0 (pos 5)
  finds_neither answer = record {
    statuses = search rules;
    bad_kek = (λ s. absurd (let wrong = s in cc), λ no. absurd (no legal_kek));
    bad_length = (λ s. absurd (let wrong = s in cc), λ they. absurd (they.1 room));
    integrity = (λ _. (legal_kek, room, answer.0, answer.1), λ _. refl);
    done = λ s. absurd (let wrong = s in cc);
    answer = λ s. absurd (let wrong = s in cc);
    other_form = λ s. absurd (let wrong = s in cc);
    plain = λ key _ _ wrapping. absurd (answer.0 key wrapping);
    padded = λ key _ _ wrapping. absurd (answer.1 key wrapping);
    none = λ _. (refl, refl);
    kept_at_bad_kek = λ s. absurd (let wrong = s in cc);
    kept_at_bad_length = λ s. absurd (let wrong = s in cc);
    kept_at_other_length = kept;
    cleared = λ legal _. cleared legal;
  }
