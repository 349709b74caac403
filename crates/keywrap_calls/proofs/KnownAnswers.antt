-- What a vector shows when its steps are done, one by one: a vector is right if its KEK has a legal length and the form
-- relates its key to its wrapped key.
use Rattle.std.proofs.Common.{◌≡◌, ◌∙◌, ◌↔◌, ℕ, ◌+◌, List, rules, arith, Bool, true, false, not, ◌&&◌, nat_eq, IsTrue, ap, refl, sym, subst}
use lib.IntN.{ℤ}
use lib.Dec.{eqb}
use mir.Syntax.{w32}
use mir.Val.{SFits, of_z, to_z}
use Rattle.std.proofs.lemmas.Bool.Decides.{Decides-eqb}
use Rattle.std.proofs.lemmas.Int.{to_z-of_z}
use Rattle.std.proofs.lemmas.Slice.Eq.{slice_eq-Decides}
use Rattle.std.specs.Cmp.Lexicographic.{pointwise}
use Rattle.std.specs.Prelude.{Decides}
use Rattle.key_wrap_core.specs.InPlace.{IsPaddedRoom, ArePaddedLengths, ArePlainLengths}
use Rattle.keywrap_calls.specs.Keks.{IsKek}
use Rattle.keywrap_calls.specs.Status.{IsDone, IsIntegrity}
use Rattle.keywrap_calls.specs.Calls.{IsWrapCall, IsUnwrapCall}

-- another wrapped key
pub other_text : (Legal : Type 0) (Relates : List ℕ → List ℕ → Type 0) (kek key text old new : List ℕ) (status : ℤ)
    → IsWrapCall Legal Relates kek key old new status → IsDone status → ¬ (new ≡ text)
    → IsTrue false ↔ (IsKek kek × Relates key text)
other_text Legal Relates kek key text old new status call done differ =
    (λ s. absurd (let wrong = s in cc), λ right. absurd (differ (sym ((call.answer done).only_text text right.1))))

-- an unwrapping that is not done
pub not_unwrapped : (Legal : Type 0) (Relates Other : List ℕ → List ℕ → Type 0) (kek text key found old new : List ℕ) (status : ℤ)
    → IsUnwrapCall Legal Relates Other kek text found old new status → Legal → ¬ IsDone status
    → IsTrue false ↔ (IsKek kek × Relates key text)
not_unwrapped Legal Relates Other kek text key found old new status call legal refused =
    (λ s. absurd (let wrong = s in cc), λ right. absurd (refused (call.accepts key right.0 legal right.1)))

-- the key that is found, or another one
pub found_key : (Legal : Type 0) (Relates Other : List ℕ → List ℕ → Type 0) (kek text key found old new : List ℕ) (status : ℤ) (same : Bool)
    → IsUnwrapCall Legal Relates Other kek text found old new status → IsDone status → Decides same (found ≡ key)
    → IsTrue same ↔ (IsKek kek × Relates key text)
found_key Legal Relates Other kek text key found old new status same call done decides = (
  λ s. ((call.done done).0, subst (λ (k : List ℕ). Relates k text) (decides.0 s) (call.answer done).wrapping),
  λ right. decides.1 (sym ((call.answer done).only_key key right.1)),
)

-- a status that was tested
pub is_done : (status : ℤ) → SFits w32 status → of_z w32 status ≡ 0 → IsDone status
is_done status fits zero = sym (to_z-of_z _ _ fits) ∙ ap (to_z w32) zero

pub not_done : (status : ℤ) → (of_z w32 status ≡ 0 → ⊥) → ¬ IsDone status
not_done status test done = test (ap (of_z w32) done)

-- bytes that were compared
pub differ : (xs ys : List ℕ) (test : Bool) → test ≡ not (pointwise eqb xs ys) → test ≡ true → ¬ (xs ≡ ys)
differ xs ys test is said = λ same.
    let equal = (slice_eq-Decides Decides-eqb xs ys (pointwise eqb xs ys) refl).1 same in
    let wrong : true ≡ false = sym said ∙ is ∙ ap not equal in
    absurd (let no_more = wrong in cc)

not_false : (b : Bool) → not b ≡ false → b ≡ true
not_false true e = refl
not_false false e = absurd (let wrong = e in cc)

pub equal : (xs ys : List ℕ) (test : Bool) → test ≡ not (pointwise eqb xs ys) → test ≡ false → xs ≡ ys
equal xs ys test is refused = (slice_eq-Decides Decides-eqb xs ys (pointwise eqb xs ys) refl).0 (not_false (pointwise eqb xs ys) (sym is ∙ refused))

-- the lengths of the unwrapping, from the lengths of the wrap
pub plain_lengths : (key old text found : ℕ) → ArePlainLengths key old → text ≡ old → found ≡ key → ArePlainLengths found text
plain_lengths key old text found legal same_text same_key = rw (same_text, same_key) legal

pub padded_lengths : (m old text found room : ℕ) → IsPaddedRoom m old → text ≡ old → old ≡ room + 8 → found ≡ room
    → ArePaddedLengths found text
padded_lengths m old text found room legal same_text more same_room =
    (search (rules, arith, legal, same_text), omega (arith, same_text, more, same_room))

-- a status that was compared with 5
pub is_integrity : (status : ℤ) → SFits w32 status → IsTrue (nat_eq (of_z w32 status) 5) ↔ IsIntegrity status
is_integrity status fits = (
  λ test. sym (to_z-of_z _ _ fits) ∙ ap (to_z w32) ((Decides-eqb (of_z w32 status) 5).0 test),
  λ is. (Decides-eqb (of_z w32 status) 5).1 (ap (of_z w32) is),
)

pub both : (a b : Bool) (P Q : Type 0) → IsTrue a ↔ P → IsTrue b ↔ Q → IsTrue (a && b) ↔ (P × Q)
both true b P Q p q = (λ s. (p.0 refl, q.0 s), λ they. q.1 they.1)
both false b P Q p q = (λ s. absurd (let wrong = s in cc), λ they. p.1 they.0)
