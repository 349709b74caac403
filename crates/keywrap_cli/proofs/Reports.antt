-- A report grows by a line at a time: each of its parts for one vector more, and then the report itself.
use Rattle.keywrap_cli.proofs.Common.{Appends, ◌≡◌, ◌+◌, ◌<◌, ◌&&◌, ℕ, Option, subst, take, map, get_or, Bool, true, false, List, [], ◌∷◌, ◌++◌, length, refl, sym, inl, inr, ap, ◌∙◌, map-append, take_more, AllByRecursion, list_all, Gave, IsReport, IsVerdict, IsVerdictOnAll, Line, line_text, verdict, TestVector}
use Rattle.std.proofs.lemmas.List.{append-nil}
use Rattle.std.proofs.lemmas.List.Folds.{concat-append, list_all-append}

each_more : {X : Type 0} (P : X → Type 0) (xs : List X) (x : X) → AllByRecursion P xs → P x → AllByRecursion P (xs ++ x ∷ [])
each_more P [] x each more = (more, tt)
each_more P (y ∷ xs) x each more = (each.0, each_more P xs x each.1 more)

and_true : (b : Bool) → (b && true) ≡ b
and_true true = refl
and_true false = refl

pub report_more : (gave : Gave) (vectors : List TestVector) (v : TestVector) (text : List ℕ) (all_ok ok : Bool)
    → IsReport gave vectors text all_ok → IsVerdict gave v ok → IsReport gave (vectors ++ v ∷ []) (text ++ (v.name ++ verdict ok)) (all_ok && ok)
report_more gave vectors v text all_ok ok r right =
    let more : List Line = record { vector = v; ok = ok } ∷ [] in
    record {
      lines = r.lines ++ more;
      one_each = map-append (λ (line : Line). line.vector) r.lines more ∙ ap (λ (vs : List TestVector). vs ++ v ∷ []) r.one_each;
      written = rw (r.written, map-append line_text r.lines more, concat-append (map line_text r.lines) (map line_text more), append-nil) refl;
      right = each_more _ r.lines _ r.right right;
      all = rw (r.all, list_all-append (λ (line : Line). line.ok) r.lines more, and_true ok) refl;
    }

-- a report grows by the line of the next element of a table
pub report_step : {X : Type 0} (gave : Gave) (f : X → TestVector) (xs : List X) (i : ℕ) (d : X) (text text' : List ℕ) (all_ok all_ok' ok : Bool)
    → i < length xs → IsReport gave (map f (take i xs)) text all_ok → IsVerdict gave (f (get_or xs i d)) ok
    → text' ≡ text ++ ((f (get_or xs i d)).name ++ verdict ok) → all_ok' ≡ (all_ok && ok)
    → IsReport gave (map f (take (i + 1) xs)) text' all_ok'
report_step gave f xs i d text text' all_ok all_ok' ok h report right line all =
    let vectors : map f (take (i + 1) xs) ≡ map f (take i xs) ++ f (get_or xs i d) ∷ [] =
    ap (map f) (take_more xs i d h) ∙ map-append f (take i xs) (get_or xs i d ∷ []) in
    rw (vectors, line, all) (report_more gave (map f (take i xs)) (f (get_or xs i d)) text all_ok ok report right)

-- the verdict on all vectors, from the verdicts on each
all_said : (gave : Gave) (lines : List Line) → AllByRecursion (λ line. IsVerdict gave line.vector line.ok) lines
    → IsVerdictOnAll gave (map (λ (line : Line). line.vector) lines) (list_all (λ (line : Line). line.ok) lines)
all_said gave [] each = tt
all_said gave (line ∷ lines) each = with_first line.ok each.0 (list_all (λ (l : Line). l.ok) lines) (all_said gave lines each.1)
  where
    with_first : (ok : Bool) → IsVerdict gave line.vector ok → (b : Bool) → IsVerdictOnAll gave (map (λ (l : Line). l.vector) lines) b
        → IsVerdictOnAll gave (line.vector ∷ map (λ (l : Line). l.vector) lines) (ok && b)
    with_first false said b rest = inl said
    with_first true said true rest = (said, rest)
    with_first true said false rest = inr rest

pub on_all : (gave : Gave) (vectors : List TestVector) (text : List ℕ) (all_ok : Bool) → IsReport gave vectors text all_ok
    → IsVerdictOnAll gave vectors all_ok
on_all gave vectors text all_ok r = rw (r.all, ← r.one_each) (all_said gave r.lines r.right)

-- the front of a report that was written
pub front_of_report : (gave : Gave) (vectors : List TestVector) (text bytes : List ℕ) (old new : Option (List ℕ)) (taken written : ℕ) (all_ok : Bool)
    → IsReport gave vectors text all_ok → taken ≡ written → bytes ≡ text → taken < length bytes → Appends old new (take taken bytes)
    → (x : List ℕ) × (y : Bool) × IsReport gave vectors x y × (written < length x) × Appends old new (take written x)
front_of_report gave vectors text bytes old new taken written all_ok report same whole short front =
    subst (λ (n : ℕ). (x : List ℕ) × (y : Bool) × IsReport gave vectors x y × (n < length x) × Appends old new (take n x)) same
    (bytes, all_ok, subst (λ (t : List ℕ). IsReport gave vectors t all_ok) (sym whole) report, short, front)
