-- What was taken of a line, and one more part, are the line.
use Rattle.std.proofs.Common.{◌≡◌, ◌≢◌, ℕ, ◌≤◌, List, [], ◌∷◌, ◌++◌, length, Option, None, Some, Result, Ok, Err, IsErrAnd, inl, inr, refl, sym, ap, ◌∙◌, arith, subst, append_assoc, append-nil}
use Rattle.key_lines.proofs.Common.{All-append, Consumes, Consumes-trans, FileFault, HasNoLf, IsAllOf, TakesPart, ReadsLine, MovesPart, Line}
use Rattle.key_files.specs.declared.fault.FileFault.TheVariants.{Read, TooLong, BadDigit, OddDigits, BadCharacter, BehindPadding, BadBase64Length, TrailingBits, Memory}
use Rattle.key_lines.specs.declared.line.Line.TheVariants as lines
use Rattle.key_lines.specs.declared.line.Part.TheVariants.{Ended, Missing}
use Rattle.key_lines.proofs.Splitting.{lines_of-ended, lines_of-last, lines_of-nil}

-- a part more
pub TakesPart-more : {a b c : Option (List ℕ)} {before after : List ℕ} (part : List ℕ) → TakesPart a b before → HasNoLf part → Consumes b c part
    → after ≡ before ++ part → TakesPart a c after
TakesPart-more {a} {b} {c} {before} {after} part t inside taken is = record {
  stands_after = subst (Consumes a c) (sym is) (Consumes-trans a b c before part t.stands_after taken);
  inside = subst HasNoLf (sym is) (All-append (λ byte. byte ≢ 10) before part t.inside inside);
}

-- nothing more
pub TakesPart-same : {a b c : Option (List ℕ)} {before after : List ℕ} → TakesPart a b before → Consumes b c [] → after ≡ before → TakesPart a c after
TakesPart-same {a} {b} {c} {before} t none is = TakesPart-more [] t (λ k _ h. absurd (omega (arith, h))) none (is ∙ sym (append-nil before))

-- a refusal
pub ReadsLine-failed : {limit : ℕ} {a b : Option (List ℕ)} (c : Option (List ℕ)) {before : List ℕ} (after : List ℕ) (answer : Result Line FileFault)
    (fault : FileFault)
    → IsErrAnd answer (λ f. f ≡ fault) → TakesPart a b before → length before ≤ limit → MovesPart limit b c before after (Err fault)
    → ReadsLine limit a c after answer
ReadsLine-failed c after (Ok v) fault is t fits m = absurd is
ReadsLine-failed {limit} {a} {b} c {before} after (Err f) fault is t fits m = subst (λ e. ReadsLine limit a c after (Err e)) (sym is) (at fault m)
  where
    at : (e : FileFault) → MovesPart limit b c before after (Err e) → ReadsLine limit a c after (Err e)
    at TooLong w = (TakesPart-more w.0 t w.1 w.2 w.3, w.4)
    at Read w = (TakesPart-same t w.0 w.1, subst (λ l. length l ≤ limit) (sym w.1) fits)
    at Memory w = (TakesPart-same t w.0 w.1, subst (λ l. length l ≤ limit) (sym w.1) fits)
    at (BadDigit n) w = w
    at OddDigits w = w
    at (BadCharacter n) w = w
    at (BehindPadding n) w = w
    at BadBase64Length w = w
    at TrailingBits w = w

-- the LF that ends the line
pub ReadsLine-ended : {limit : ℕ} {a b c : Option (List ℕ)} {before after : List ℕ} → TakesPart a b before
    → MovesPart limit b c before after (Ok Ended) → ReadsLine limit a c after (Ok lines.Ended)
ReadsLine-ended {limit} {a} {b} {c} {before} {after} t m =
    let part = m.0 in
    let line_end : before ++ (part ++ 10 ∷ []) ≡ after ++ 10 ∷ [] = sym (append_assoc before part (10 ∷ [])) ∙ ap (λ l. l ++ 10 ∷ []) (sym m.3) in
    let inside : HasNoLf after = subst HasNoLf (sym m.3) (All-append (λ byte. byte ≢ 10) before part t.inside m.1) in (
      record {
        taken = after ++ 10 ∷ [];
        stands_after = subst (Consumes a c) line_end (Consumes-trans a b c before (part ++ 10 ∷ []) t.stands_after m.2);
        one_line = lines_of-ended after [] inside ∙ ap (λ l. after ∷ l) lines_of-nil;
        whole = inl (after, refl);
      },
      (after, refl),
      m.4,
    )

pub length-nil : (l : List ℕ) → length l ≡ 0 → l ≡ []
length-nil [] h = refl
length-nil (x ∷ xs) h = absurd (omega (arith, h))

-- all that the reader had left was taken, after what was taken before
pub all_of-both : (a b : Option (List ℕ)) (xs ys : List ℕ) → Consumes a b xs → IsAllOf ys b → IsAllOf (xs ++ ys) a
all_of-both None b xs ys p all = tt
all_of-both (Some x) None xs ys p all = absurd p
all_of-both (Some x) (Some y) xs ys p all = p ∙ ap (λ l. xs ++ l) all

-- or with a last one
pub ReadsLine-last : {limit : ℕ} {a b : Option (List ℕ)} (c : Option (List ℕ)) {before : List ℕ} (after : List ℕ) → length after ≢ 0 → TakesPart a b before
    → length before ≤ limit → MovesPart limit b c before after (Ok Missing) → ReadsLine limit a c after (Ok lines.Last)
ReadsLine-last {limit} {a} {b} c {before} after some t fits m =
    let u = TakesPart-same t m.0 m.2 in
    let all = subst (λ l. IsAllOf l a) (append-nil before ∙ sym m.2) (all_of-both a b before [] t.stands_after m.1) in
    at after some u all (subst (λ l. length l ≤ limit) (sym m.2) fits)
  where
    at : (line : List ℕ) → length line ≢ 0 → TakesPart a c line → IsAllOf line a → length line ≤ limit → ReadsLine limit a c line (Ok lines.Last)
    at [] none u all within = absurd (none refl)
    at (x ∷ xs) some u all within =
        (record { taken = x ∷ xs; stands_after = u.stands_after; one_line = lines_of-last x xs u.inside; whole = inr all }, all, within)

-- the end of the reader, before any byte of a line
pub ReadsLine-none : (limit : ℕ) {a b : Option (List ℕ)} (c : Option (List ℕ)) {before : List ℕ} (after : List ℕ) → length after ≡ 0
    → TakesPart a b before → MovesPart limit b c before after (Ok Missing) → ReadsLine limit a c after (Ok lines.Missing)
ReadsLine-none limit {a} {b} c {before} after none t m =
    let empty : before ++ [] ≡ [] = append-nil before ∙ sym m.2 ∙ length-nil after none in (
      subst (Consumes a c) empty (Consumes-trans a b c before [] t.stands_after m.0),
      subst (λ l. IsAllOf l a) empty (all_of-both a b before [] t.stands_after m.1),
    )
