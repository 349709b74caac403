-- Lists whose elements all pass a test, and what a filter leaves of them.
use Rattle.key_files.proofs.Common.{◌≡◌, ◌≢◌, ◌<◌, ◌+◌, ◌==◌, not, Bool, true, false, ℕ, zero, suc, List, [], ◌∷◌, ◌++◌, length, take, drop, replicate, All, None, inl, inr, arith, refl, sym, ap, ◌∙◌, subst, filter, list_all, position, position_from, prefix_len, and_from, and_parts, cases_Bool, eqb-true, position_from-zero, drop-drop, drop_at, All-drop, list_all-append, AllPass-from_list_all, list_all-from_AllPass, IsBytes, is_skipped, IsLine}

pub all-both : (p q r : ℕ → Bool) (xs : List ℕ) → ((c : ℕ) → p c ≡ true → q c ≡ true → r c ≡ true)
    → list_all p xs ≡ true → list_all q xs ≡ true → list_all r xs ≡ true
all-both p q r [] step hp hq = refl
all-both p q r (c ∷ xs) step hp hq =
    let a = and_parts (p c) (list_all p xs) hp in
    let b = and_parts (q c) (list_all q xs) hq in
    and_from (r c) (list_all r xs) (step c a.0 b.0) (all-both p q r xs step a.1 b.1)

pub all-append : (p : ℕ → Bool) (xs ys : List ℕ) → list_all p xs ≡ true → list_all p ys ≡ true → list_all p (xs ++ ys) ≡ true
all-append p xs ys hx hy = list_all-append p xs ys ∙ and_from (list_all p xs) (list_all p ys) hx hy

pub all-replicate : (p : ℕ → Bool) (n c : ℕ) → p c ≡ true → list_all p (replicate n c) ≡ true
all-replicate p zero c h = refl
all-replicate p (suc n) c h = and_from (p c) (list_all p (replicate n c)) h (all-replicate p n c h)

pub all-drop : (p : ℕ → Bool) (xs : List ℕ) (n : ℕ) → list_all p xs ≡ true → list_all p (drop n xs) ≡ true
all-drop p xs n h = list_all-from_AllPass p (drop n xs) (All-drop (λ x. p x ≡ true) n xs (AllPass-from_list_all p xs h))

pub filter-all : (p : ℕ → Bool) (xs : List ℕ) → list_all p xs ≡ true → filter p xs ≡ xs
filter-all p [] h = refl
filter-all p (c ∷ xs) h =
    let a = and_parts (p c) (list_all p xs) h in
    rw (a.0, filter-all p xs a.1) refl

pub position_from-none : (p : ℕ → Bool) (i : ℕ) (xs : List ℕ) → list_all p xs ≡ true → position_from (λ c. not (p c)) i xs ≡ None
position_from-none p i [] h = refl
position_from-none p i (c ∷ xs) h =
    let a = and_parts (p c) (list_all p xs) h in
    rw a.0 (position_from-none p (i + 1) xs a.1)

pub position-none : (p : ℕ → Bool) (xs : List ℕ) → list_all p xs ≡ true → position (λ c. not (p c)) xs ≡ None
position-none p xs h = position_from-zero (λ c. not (p c)) xs ∙ position_from-none p 0 xs h

pub all-from_none : (p : ℕ → Bool) (i : ℕ) (xs : List ℕ) → position_from p i xs ≡ None → list_all (λ c. not (p c)) xs ≡ true
all-from_none p i [] h = refl
all-from_none p i (c ∷ xs) h = elim (cases_Bool (p c)) [
  | inl passes ↦ cc (rw passes at h)
  | inr fails ↦ rw fails (all-from_none p (i + 1) xs (rw fails at h))
]

-- and the other way round
pub all-found : (p : ℕ → Bool) (i : ℕ) (xs : List ℕ) → position_from (λ c. not (p c)) i xs ≡ None → list_all p xs ≡ true
all-found p i [] h = refl
all-found p i (c ∷ xs) h = elim (cases_Bool (p c)) [
  | inl passes ↦ rw passes (all-found p (i + 1) xs (rw passes at h))
  | inr fails ↦ cc (rw fails at h)
]

pub prefix_len-all : (p : ℕ → Bool) (xs ys : List ℕ) → list_all p xs ≡ true → prefix_len p (xs ++ ys) ≡ length xs + prefix_len p ys
prefix_len-all p [] ys h = omega arith
prefix_len-all p (c ∷ xs) ys h =
    let a = and_parts (p c) (list_all p xs) h in
    let rest = prefix_len-all p xs ys a.1 in
    rw a.0 (omega (arith, rest))

-- the rest after a front whose elements all pass
pub all-behind : (p q : ℕ → Bool) (xs ys : List ℕ) → list_all p xs ≡ true → list_all q ys ≡ true
    → list_all q (drop (prefix_len p (xs ++ ys)) (xs ++ ys)) ≡ true
all-behind p q xs ys hp hq =
    let rest : drop (length xs + prefix_len p ys) (xs ++ ys) ≡ drop (prefix_len p ys) ys =
    sym (drop-drop (prefix_len p ys) (length xs) (xs ++ ys)) ∙ ap (λ (l : List ℕ). drop (prefix_len p ys) l) (drop_at xs ys (length xs) refl) in
    rw (prefix_len-all p xs ys hp, rest) (all-drop q ys (prefix_len p ys) hq)

pub all-filter : (p q : ℕ → Bool) (xs : List ℕ) → list_all p xs ≡ true → list_all p (filter q xs) ≡ true
all-filter p q [] h = refl
all-filter p q (c ∷ xs) h =
    let a = and_parts (p c) (list_all p xs) h in
    let rest = all-filter p q xs a.1 in
    elim (cases_Bool (q c)) [
      | inl keeps ↦ rw keeps (and_from (p c) (list_all p (filter q xs)) a.0 rest)
      | inr drops ↦ rw drops rest
    ]

-- what all kept bytes pass, and all others
pub all-unfiltered : (p q : ℕ → Bool) (xs : List ℕ) → ((c : ℕ) → q c ≡ false → p c ≡ true) → list_all p (filter q xs) ≡ true → list_all p xs ≡ true
all-unfiltered p q [] other h = refl
all-unfiltered p q (c ∷ xs) other h = elim (cases_Bool (q c)) [
  | inl keeps ↦
      let a = and_parts (p c) (list_all p (filter q xs)) (rw keeps at h) in
      and_from (p c) (list_all p xs) a.0 (all-unfiltered p q xs other a.1)
  | inr drops ↦ and_from (p c) (list_all p xs) (other c drops) (all-unfiltered p q xs other (rw drops at h))
]

pub drop_one : (n c : ℕ) (xs : List ℕ) → drop (1 + n) (c ∷ xs) ≡ drop n xs
drop_one n c xs = sym (drop-drop n 1 (c ∷ xs))

pub behind-unfiltered : (p q r : ℕ → Bool) (xs : List ℕ) → ((c : ℕ) → q c ≡ false → p c ≡ true) → ((c : ℕ) → q c ≡ false → r c ≡ true)
    → list_all r (drop (prefix_len p (filter q xs)) (filter q xs)) ≡ true → list_all r (drop (prefix_len p xs) xs) ≡ true
behind-unfiltered p q r [] before other h = refl
behind-unfiltered p q r (c ∷ xs) before other h = elim (cases_Bool (q c)) [
  | inl keeps ↦ elim (cases_Bool (p c)) [
    | inl goes ↦
        let rest : list_all r (drop (1 + prefix_len p (filter q xs)) (c ∷ filter q xs)) ≡ true = rw (keeps, goes) at h in
        rw (goes, drop_one (prefix_len p xs) c xs)
        (behind-unfiltered p q r xs before other (rw (drop_one (prefix_len p (filter q xs)) c (filter q xs)) at rest))
    | inr stops ↦ rw stops (all-unfiltered r q (c ∷ xs) other (rw keeps (rw (keeps, stops) at h)))
  ]
  | inr drops ↦ rw (before c drops, drop_one (prefix_len p xs) c xs) (behind-unfiltered p q r xs before other (rw drops at h))
]

-- a byte that is left out is one of four
pub of_blanks : (P : ℕ → Type 0) → P 32 → P 9 → P 13 → P 10 → (c : ℕ) → not (is_skipped c) ≡ false → P c
of_blanks P a b d e c h = elim (cases_Bool (c == 32)) [
  | inl is ↦ subst P (sym (eqb-true c 32 is)) a
  | inr no32 ↦ elim (cases_Bool (c == 9)) [
    | inl is ↦ subst P (sym (eqb-true c 9 is)) b
    | inr no9 ↦ elim (cases_Bool (c == 13)) [
      | inl is ↦ subst P (sym (eqb-true c 13 is)) d
      | inr no13 ↦ elim (cases_Bool (c == 10)) [
        | inl is ↦ subst P (sym (eqb-true c 10 is)) e
        | inr no10 ↦ cc (rw (no32, no9, no13, no10) at h)
      ]
    ]
  ]
]

-- and LF is not among them
pub no_lf : (p : ℕ → Bool) (text : List ℕ) → p 10 ≡ false → list_all p text ≡ true → All (λ byte. byte ≢ 10) text
no_lf p text lf all = λ k d lt e. cc (sym lf ∙ subst (λ c. p c ≡ true) e (AllPass-from_list_all p text all k d lt))

pub IsLine-of : (p : ℕ → Bool) (text : List ℕ) → p 10 ≡ false → list_all p text ≡ true → IsLine (text ++ 10 ∷ [])
IsLine-of p text lf all = (text, refl, no_lf p text lf all)

-- ---- bytes

pub IsBytes-more : (c : ℕ) (xs : List ℕ) → c < 256 → IsBytes xs → IsBytes (c ∷ xs)
IsBytes-more c xs fits rest zero = fits
IsBytes-more c xs fits rest (suc k) = rest k

pub IsBytes-filter : (p : ℕ → Bool) (xs : List ℕ) → IsBytes xs → IsBytes (filter p xs)
IsBytes-filter p [] fits = fits
IsBytes-filter p (c ∷ xs) fits =
    let rest = IsBytes-filter p xs (λ k. fits (suc k)) in
    elim (cases_Bool (p c)) [
      | inl keeps ↦ rw keeps (IsBytes-more c (filter p xs) (fits 0) rest)
      | inr drops ↦ rw drops rest
    ]

pub IsBytes-drop : (n : ℕ) (xs : List ℕ) → IsBytes xs → IsBytes (drop n xs)
IsBytes-drop zero xs fits = fits
IsBytes-drop (suc n) [] fits = fits
IsBytes-drop (suc n) (c ∷ xs) fits = IsBytes-drop n xs (λ k. fits (suc k))

pub IsBytes-take : (n : ℕ) (xs : List ℕ) → IsBytes xs → IsBytes (take n xs)
IsBytes-take zero xs fits = λ k. omega arith
IsBytes-take (suc n) [] fits = fits
IsBytes-take (suc n) (c ∷ xs) fits = IsBytes-more c (take n xs) (fits 0) (IsBytes-take n xs (λ k. fits (suc k)))
