-- The summary of a run, as lines are added to it, and the log.
use Rattle.key_lines.proofs.Common.{◌≡◌, ℕ, ◌+◌, List, [], ◌∷◌, ◌++◌, length, Option, None, Some, Result, Ok, Err, refl, sym, ap, ◌∙◌, arith, append_assoc, append-nil, Answer, Logs, notes_of, refusal_of, refusals_of, Summarizes, counted, counted_all, first_of, first_or, LineFault, RefusedLine, RunSummary}

pub Logs-nil : {R : Type 0} (a : Option (List (RefusedLine R))) → Logs a a []
Logs-nil None = tt
Logs-nil (Some x) = sym (append-nil x)

pub Logs-trans : {R : Type 0} (a b c : Option (List (RefusedLine R))) (xs ys : List (RefusedLine R)) → Logs a b xs → Logs b c ys → Logs a c (xs ++ ys)
Logs-trans None b c xs ys p q = tt
Logs-trans (Some x) None c xs ys p q = absurd p
Logs-trans (Some x) (Some y) None xs ys p q = absurd q
Logs-trans (Some x) (Some y) (Some z) xs ys p q = q ∙ ap (λ l. l ++ ys) p ∙ append_assoc x xs ys

pub refusals_of-append : {R : Type 0} (n : ℕ) (results more : List (Result Answer (LineFault R)))
    → refusals_of n (results ++ more) ≡ refusals_of n results ++ refusals_of (n + length results) more
refusals_of-append n [] more =
    let place : n ≡ n + 0 = omega arith in
    ap (λ k. refusals_of k more) place
refusals_of-append n (r ∷ rs) more =
    let place : n + 1 + length rs ≡ n + length (r ∷ rs) = omega arith in
    ap (λ l. refusal_of n r ++ l) (refusals_of-append (n + 1) rs more ∙ ap (λ k. refusals_of (n + 1) rs ++ refusals_of k more) place)
    ∙ sym (append_assoc (refusal_of n r) (refusals_of (n + 1) rs) (refusals_of (n + length (r ∷ rs)) more))

pub counted_all-append : {R : Type 0} (s : RunSummary R) (results more : List (Result Answer (LineFault R)))
    → counted_all s (results ++ more) ≡ counted_all (counted_all s results) more
counted_all-append s [] more = refl
counted_all-append s (r ∷ rs) more = counted_all-append (counted s r) rs more

-- the first of two lists
abbrev first_of_both : {A : Type 0} → Option A → List A → Option A
first_of_both None xs = first_of xs
first_of_both (Some x) xs = Some x

first_of_both-nil : {A : Type 0} (first : Option A) → first ≡ first_of_both first []
first_of_both-nil None = refl
first_of_both-nil (Some x) = refl

first_of_both-cons : {A : Type 0} (first : Option A) (x : A) (xs : List A) → first_of_both (first_or first x) xs ≡ first_of_both first (x ∷ xs)
first_of_both-cons None x xs = refl
first_of_both-cons (Some y) x xs = refl

-- what a summary counts, and these lines
pub record Counted {R : Type 0} (s s' : RunSummary R) (results : List (Result Answer (LineFault R))) : Type 0 where
  pub lines : s'.lines ≡ s.lines + length results
  pub noted : s'.noted ≡ s.noted + notes_of results
  pub refused : s'.refused ≡ s.refused + length (refusals_of (s.lines + 1) results)
  pub first_refused : s'.first_refused ≡ first_of_both s.first_refused (refusals_of (s.lines + 1) results)

pub counts_all : {R : Type 0} (s : RunSummary R) (results : List (Result Answer (LineFault R))) → Counted s (counted_all s results) results
counts_all s [] = record { lines = omega arith; noted = omega arith; refused = omega arith; first_refused = first_of_both-nil s.first_refused }
counts_all s (Ok answer ∷ rs) =
    let h = counts_all (counted s (Ok answer)) rs in
    record { lines = omega (arith, h.lines); noted = omega (arith, h.noted); refused = h.refused; first_refused = h.first_refused }
counts_all s (Err fault ∷ rs) =
    let h = counts_all (counted s (Err fault)) rs in
    record {
      lines = omega (arith, h.lines);
      noted = h.noted;
      refused = omega (arith, h.refused);
      first_refused = h.first_refused ∙ first_of_both-cons s.first_refused (record { line = s.lines + 1; fault = fault }) (refusals_of (s.lines + 1 + 1) rs);
    }

-- the summary of a whole run
pub summarizes_all : {R : Type 0} (results : List (Result Answer (LineFault R))) (s : RunSummary R)
    → s ≡ counted_all (record { lines = 0; noted = 0; refused = 0; first_refused = None }) results → Summarizes results s
summarizes_all results s is =
    let h = counts_all (record { lines = 0; noted = 0; refused = 0; first_refused = None }) results in
    rw is (record { lines = omega (arith, h.lines); noted = omega (arith, h.noted); refused = omega (arith, h.refused); first_refused = h.first_refused })
