-- How the lines of a text come of its parts.
use Rattle.key_lines.proofs.Common.{◌≡◌, ◌≢◌, ℕ, ◌==◌, List, [], ◌∷◌, ◌++◌, cond, true, false, Bool, inl, inr, refl, sym, ap, ◌∙◌, ne_eqb, append_assoc, All-head, All-tail, lines_of, before_first, EndsWithLf, EndsLine, HasNoLf}

-- a line that an LF ends is the first
pub lines_of-ended : (line rest : List ℕ) → HasNoLf line → lines_of (line ++ 10 ∷ rest) ≡ line ∷ lines_of rest
unfolding lines_of
lines_of-ended [] rest h = refl
lines_of-ended (x ∷ xs) rest h =
    rw (ne_eqb x 10 (All-head (λ b. b ≢ 10) x xs h), lines_of-ended xs rest (All-tail (λ b. b ≢ 10) x xs h)) refl

-- a last line, which has a byte
pub lines_of-last : (x : ℕ) (xs : List ℕ) → HasNoLf (x ∷ xs) → lines_of (x ∷ xs) ≡ (x ∷ xs) ∷ []
unfolding lines_of
lines_of-last x [] h = rw (ne_eqb x 10 (All-head (λ b. b ≢ 10) x [] h)) refl
lines_of-last x (y ∷ ys) h =
    rw (ne_eqb x 10 (All-head (λ b. b ≢ 10) x (y ∷ ys) h), lines_of-last y ys (All-tail (λ b. b ≢ 10) x (y ∷ ys) h)) refl

pub lines_of-nil : lines_of [] ≡ []
unfolding lines_of
lines_of-nil = refl

-- a text that ends with an LF has a first line, which may be empty
pub first_ended : (front : List ℕ) → (line : List ℕ) × (lines : List (List ℕ)) × (lines_of (front ++ 10 ∷ []) ≡ line ∷ lines)
unfolding lines_of
first_ended [] = ([], [], refl)
first_ended (x ∷ xs) =
    let at : (b : Bool) → (line : List ℕ) × (lines : List (List ℕ))
    × (cond b ([] ∷ lines_of (xs ++ 10 ∷ [])) (before_first x (lines_of (xs ++ 10 ∷ []))) ≡ line ∷ lines) =
    elim [
      | true ↦ ([], lines_of (xs ++ 10 ∷ []), refl)
      | false ↦ let rest = first_ended xs in (x ∷ rest.0, rest.1, ap (before_first x) rest.2)
    ] in
    at (x == 10)

-- after an LF the lines are the lines before it and the lines after it
pub lines_of-append_front : (front rest : List ℕ) → lines_of (front ++ 10 ∷ rest) ≡ lines_of (front ++ 10 ∷ []) ++ lines_of rest
unfolding lines_of
lines_of-append_front [] rest = refl
lines_of-append_front (x ∷ xs) rest =
    let more = first_ended xs in
    let next = lines_of-append_front xs rest in
    let at : (b : Bool) → cond b ([] ∷ lines_of (xs ++ 10 ∷ rest)) (before_first x (lines_of (xs ++ 10 ∷ rest)))
    ≡ cond b ([] ∷ lines_of (xs ++ 10 ∷ [])) (before_first x (lines_of (xs ++ 10 ∷ []))) ++ lines_of rest =
    elim [
      | true ↦ ap (λ l. [] ∷ l) next
      | false ↦ ap (before_first x) (next ∙ ap (λ l. l ++ lines_of rest) more.2) ∙ ap (λ l. before_first x l ++ lines_of rest) (sym more.2)
    ] in
    at (x == 10)

pub lines_of-append : (taken rest : List ℕ) → EndsWithLf taken → lines_of (taken ++ rest) ≡ lines_of taken ++ lines_of rest
lines_of-append taken rest (front, is) =
    ap (λ l. lines_of (l ++ rest)) is ∙ ap lines_of (append_assoc front (10 ∷ []) rest) ∙ lines_of-append_front front rest
    ∙ ap (λ l. lines_of l ++ lines_of rest) (sym is)

-- and so after nothing
pub lines_of-more : (taken rest : List ℕ) → EndsLine taken → lines_of (taken ++ rest) ≡ lines_of taken ++ lines_of rest
lines_of-more taken rest (inl none) = ap (λ l. lines_of (l ++ rest)) none ∙ ap (λ l. l ++ lines_of rest) (sym (ap lines_of none ∙ lines_of-nil))
lines_of-more taken rest (inr ends) = lines_of-append taken rest ends
