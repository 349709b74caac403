-- The slots of a buffer, while one slot after the other is written; and what a call for many keys promises of each status.
use Rattle.std.proofs.Common.{◌≡◌, ℕ, ◌+◌, ◌*◌, ◌≤◌, ◌<◌, List, length, take, drop, replicate, All, refl, sym, subst, ◌∙◌, arith, inl, inr, rules, pos}
use Rattle.std.proofs.lemmas.Bool.{cases_lt}
use borrow.Rule.Slice.PartMut.{put_mid}
use lib.IntN.{ℤ}
use mir.Syntax.{w32}
use mir.Val.{SFits, of_z, to_z}
use Rattle.key_wrap_core.specs.Lengths.{IsPaddedTextLength}
use Rattle.key_wrap_core.proofs.Parts.{Writes, part_written, part_kept}
use Rattle.keywrap_calls.specs.Keks.{IsKek}
use Rattle.keywrap_calls.specs.KindCalls.{FindsKind}
use Rattle.keywrap_calls.specs.Status.{IsUnwrapStatus}
use Rattle.keywrap_calls.proofs.CallPromises.{passed_on}
use Rattle.keywrap_calls.specs.Many.{slot_at, IsManyCall}

-- The slots before one are done, each by S from what it was to what it is, and the others are as they were.
pub record SlotsDone (S : ℕ → List ℕ → List ℕ → Type 0) (n i : ℕ) (texts texts' : List ℕ) : Type 0 where
  pub done : (j : ℕ) → j < i → S j (slot_at n j texts) (slot_at n j texts')
  pub left : (j : ℕ) → i ≤ j → slot_at n j texts' ≡ slot_at n j texts

pub no_slot : (S : ℕ → List ℕ → List ℕ → Type 0) (n : ℕ) (texts : List ℕ) → SlotsDone S n 0 texts texts
no_slot S n texts = record { done = λ j below. absurd (omega arith); left = λ j from. refl }

-- the next slot; S' says the same of the slots before it
pub slot_next : (S S' : ℕ → List ℕ → List ℕ → Type 0) {n i : ℕ} {texts texts' : List ℕ} (k : ℕ) (text : List ℕ)
    → k ≡ n → length text ≡ n → n * i + n ≤ length texts' → SlotsDone S n i texts texts'
    → ((j : ℕ) → j < i → (a b : List ℕ) → S j a b → S' j a b)
    → S' i (take k (drop (n * i) texts')) text → SlotsDone S' n (i + 1) texts (put_mid (n * i) k texts' text)
slot_next S S' {n = n} {i = i} {texts = texts} {texts' = texts'} k text whole size room h same last =
    let here : i ≤ i = omega arith in
    let own : S' i (slot_at n i texts) text = rw (whole, h.left i here) at last in
    let written : Writes n i (n * i) k texts' text = record { place = refl; whole = whole; size = size; room = room } in
    let other : (j : ℕ) → ¬ (j ≡ i) → slot_at n j (put_mid (n * i) k texts' text) ≡ slot_at n j texts' = λ j apart. part_kept j written apart in
    record {
      done = λ j below. elim (cases_lt j i) [
        | inl less ↦
            let apart : ¬ (j ≡ i) = λ e. absurd (omega (arith, e, less)) in
            rw (other j apart) (same j less _ _ (h.done j less))
        | inr from ↦
            let is : j ≡ i = omega arith in
            rw (is, part_written written) own
      ];
      left = λ j from. other j (λ e. absurd (omega (arith, e, from))) ∙ h.left j (omega arith);
    }

-- the three statuses of a call for many keys
module _ (Keks Legal Kept : Type 0) (IsSlot : ℕ → Type 0) (count : ℕ) where
  pub many_done : Keks → Legal → ((i : ℕ) → i < count → IsSlot i) → IsManyCall Keks Legal Kept IsSlot count (pos 0)
  many_done keks legal slots = record {
    statuses = search rules;
    bad_kek = (λ s. absurd (let wrong = s in cc), λ no. absurd (no keks));
    bad_length = (λ s. absurd (let wrong = s in cc), λ they. absurd (they.1 legal));
    done = (λ _. (keks, legal), λ _. refl);
    kept = λ no. absurd (no refl);
    slots = λ _. slots;
  }

  pub many_bad_length : Keks → ¬ Legal → Kept → IsManyCall Keks Legal Kept IsSlot count (pos 4)
  many_bad_length keks illegal kept = record {
    statuses = search rules;
    bad_kek = (λ s. absurd (let wrong = s in cc), λ no. absurd (no keks));
    bad_length = (λ _. (keks, illegal), λ _. refl);
    done = (λ s. absurd (let wrong = s in cc), λ they. absurd (illegal they.1));
    kept = λ _. kept;
    slots = λ s. absurd (let wrong = s in cc);
  }

  pub many_bad_kek : ¬ Keks → Kept → IsManyCall Keks Legal Kept IsSlot count (pos 3)
  many_bad_kek none kept = record {
    statuses = search rules;
    bad_kek = (λ _. none, λ _. refl);
    bad_length = (λ s. absurd (let wrong = s in cc), λ they. absurd (none they.0));
    done = (λ s. absurd (let wrong = s in cc), λ they. absurd (none they.0));
    kept = λ _. kept;
    slots = λ s. absurd (let wrong = s in cc);
  }

-- a KEK of a legal length
abbrev pub some_kek : List ℕ
some_kek = replicate 16 0

pub some_kek_legal : IsKek some_kek
unfolding IsKek
some_kek_legal = inl (inl refl)

-- a kind that is found of a text of a legal length leaves its scratch buffer zero
pub scratch_cleared : (E : List ℕ → List ℕ) (kek text old new : List ℕ) (is_padded key_len : ℕ) (status : ℤ)
    → FindsKind E kek text old new is_padded key_len status → IsKek kek → IsPaddedTextLength (length text)
    → length text ≡ length old + 8 → All (λ byte. byte ≡ 0) new
scratch_cleared E kek text old new is_padded key_len status call legal_kek legal room = elim call.statuses [
  | inl wrap ↦ elim wrap [
    | inl done ↦ call.cleared legal (inl done)
    | inr refused ↦ elim refused [
      | inl bad_kek ↦ absurd (call.bad_kek.0 bad_kek legal_kek)
      | inr bad_length ↦ absurd ((call.bad_length.0 bad_length).1 (λ _. room))
    ]
  ]
  | inr integrity ↦ call.cleared legal (inr integrity)
]

-- a status that is passed on is one of those that it was
pub status_passed : {status : ℤ} → SFits w32 status → IsUnwrapStatus status → IsUnwrapStatus (to_z w32 (of_z w32 status))
status_passed {status = status} fits is = subst (λ s. IsUnwrapStatus s) (sym (passed_on fits refl)) is
