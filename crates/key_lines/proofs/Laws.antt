-- A line denotes what it denotes as a file, and the line that is printed for bytes denotes them.
use Rattle.key_lines.proofs.Common.{◌≡◌, ◌≢◌, All, ◌-◌, ◌==◌, inl, inr, not, Bool, true, false, ℕ, List, [], ◌∷◌, ◌++◌, length, take, drop, reverse, Result, Ok, Err, arith, refl, sym, ap, ◌∙◌, append-nil, subst, take-append-drop, filter, list_all, prefix_len, suffix_len, length-drop, length-reverse, reverse-append, reverse-reverse, take_all, take_at, filter-append, FileFault, LinesAreFiles, PrintsBack, blank_ended_meaning, is_blank, meaning_behind, text_meaning, text_of, TextNotation}
use Rattle.std.proofs.lemmas.Bool.{and_from, and_parts, cases_Bool, eqb-true, not-true}
use Rattle.key_files.specs.Base64Text.{IsBase64Of, base64_meaning, encode_of, kept, output_encoding, symbol_text_meaning}
use Rattle.key_files.specs.HexText.{IsBytes, encode_lower, is_hex_digit, is_skipped}
use Rattle.key_files.specs.declared.base64_text.Alphabet.TheVariants.{Standard, UrlSafe}
use Rattle.key_files.proofs.Base64Back.{IsBase64Of-output, base64_meaning-accepts, kept-encoded, symbol_text_meaning-accepts, symbol_text_meaning-sound, unskipped}
use Rattle.key_files.proofs.Lists.{IsBytes-drop, IsBytes-take, all-append, all-both, drop_one, no_lf}
use Rattle.key_files.proofs.ReadBack.{all-lower, hex_meaning-of_text}
use Rattle.key_files.proofs.Strict.{digit_text_meaning-lower}
use Rattle.key_lines.specs.declared.text.TextNotation.TheVariants.{Hex, Base64, Base64Url}

-- a filter that drops blanks keeps as much of the text as of the line
module _ (q : ℕ → Bool) (blank : (c : ℕ) → is_blank c ≡ true → q c ≡ false) where
  filter-front : (xs : List ℕ) → filter q (drop (prefix_len is_blank xs) xs) ≡ filter q xs
  filter-front [] = refl
  filter-front (c ∷ xs) = elim (cases_Bool (is_blank c)) [
    | inl is ↦ rw (is, drop_one (prefix_len is_blank xs) c xs, blank c is) (filter-front xs)
    | inr other ↦ rw other refl
  ]

  filter-end : (zs : List ℕ) → filter q (reverse (drop (prefix_len is_blank zs) zs)) ≡ filter q (reverse zs)
  filter-end [] = refl
  filter-end (c ∷ zs) = elim (cases_Bool (is_blank c)) [
    | inl is ↦
        let none : filter q (c ∷ []) ≡ [] = rw (blank c is) refl in
        let more : filter q (reverse (c ∷ zs)) ≡ filter q (reverse zs) =
        ap (filter q) (reverse-append (c ∷ []) zs) ∙ filter-append q (reverse zs) (c ∷ []) ∙ ap (λ l. filter q (reverse zs) ++ l) none ∙ append-nil (filter q (reverse zs)) in
        rw (is, drop_one (prefix_len is_blank zs) c zs) (filter-end zs ∙ sym more)
    | inr other ↦ rw other refl
  ]

  trimmed : (ys : List ℕ) → take (length ys - suffix_len is_blank ys) ys ≡ reverse (drop (suffix_len is_blank ys) (reverse ys))
  trimmed ys =
      let n : ℕ = suffix_len is_blank ys in
      let zs : List ℕ = reverse ys in
      let split : ys ≡ reverse (drop n zs) ++ reverse (take n zs) =
      sym (reverse-reverse ys) ∙ ap reverse (sym (take-append-drop n zs)) ∙ reverse-append (take n zs) (drop n zs) in
      let size : length ys - n ≡ length (reverse (drop n zs)) = sym (length-reverse (drop n zs) ∙ length-drop n zs ∙ ap (λ k. k - n) (length-reverse ys)) in
      ap (take (length ys - n)) split ∙ take_at (reverse (drop n zs)) (reverse (take n zs)) (length ys - n) (sym size)

  pub filter-text : (line : List ℕ) → filter q (text_of line) ≡ filter q line
  filter-text line =
      let ys : List ℕ = drop (prefix_len is_blank line) line in
      ap (filter q) (trimmed ys) ∙ filter-end (reverse ys) ∙ ap (filter q) (reverse-reverse ys) ∙ filter-front line

of_is_blank : (P : ℕ → Type 0) → P 32 → P 9 → P 13 → (c : ℕ) → is_blank c ≡ true → P c
of_is_blank P a b d c h = elim (cases_Bool (c == 32)) [
  | inl is ↦ subst P (sym (eqb-true c 32 is)) a
  | inr no32 ↦ elim (cases_Bool (c == 9)) [
    | inl is ↦ subst P (sym (eqb-true c 9 is)) b
    | inr no9 ↦ subst P (sym (eqb-true c 13 (rw (no32, no9) at h))) d
  ]
]

IsBytes-text : (line : List ℕ) → IsBytes line → IsBytes (text_of line)
IsBytes-text line fits =
    let ys : List ℕ = drop (prefix_len is_blank line) line in
    IsBytes-take (length ys - suffix_len is_blank ys) ys (IsBytes-drop (prefix_len is_blank line) line fits)

meaning-ok : (n : ℕ) (meaning : Result (List ℕ) FileFault) (bytes : List ℕ) → meaning_behind n meaning ≡ Ok bytes → meaning ≡ Ok bytes
meaning-ok n (Ok x) bytes h = h
meaning-ok n (Err fault) bytes h = cc h

of_line : (notation : TextNotation) (line bytes : List ℕ) → blank_ended_meaning notation line ≡ Ok bytes → text_meaning notation (text_of line) ≡ Ok bytes
unfolding blank_ended_meaning
of_line notation line bytes h = meaning-ok (prefix_len is_blank line) (text_meaning notation (text_of line)) bytes h

is_file-base64 : (line bytes : List ℕ) → IsBytes line → IsBytes bytes → symbol_text_meaning (text_of line) ≡ Ok bytes → base64_meaning line ≡ Ok bytes
is_file-base64 line bytes fits each h =
    let text : List ℕ = text_of line in
    let q : ℕ → Bool = λ c. not (is_skipped c) in
    let own = symbol_text_meaning-sound text bytes (IsBytes-text line fits) h in
    let same : kept line ≡ text = sym (filter-text q (of_is_blank (λ c. q c ≡ false) refl refl refl) line) ∙ kept-encoded text bytes each own in
    base64_meaning-accepts line bytes each (subst (λ l. IsBase64Of l bytes) (sym same) own)

pub lines_are_files : (notation : TextNotation) → LinesAreFiles notation
lines_are_files Hex line bytes fits each h =
    let q : ℕ → Bool = λ c. not (is_skipped c) in
    hex_meaning-of_text line (text_of line) bytes
    (sym (filter-text is_hex_digit (of_is_blank (λ c. is_hex_digit c ≡ false) refl refl refl) line))
    (sym (filter-text q (of_is_blank (λ c. q c ≡ false) refl refl refl) line)) (of_line Hex line bytes h)
lines_are_files Base64 line bytes fits each h = is_file-base64 line bytes fits each (of_line Base64 line bytes h)
lines_are_files Base64Url line bytes fits each h = is_file-base64 line bytes fits each (of_line Base64Url line bytes h)

-- ---- the printed line

no_front : (xs : List ℕ) → list_all (λ c. not (is_blank c)) xs ≡ true → prefix_len is_blank xs ≡ 0
no_front [] h = refl
no_front (c ∷ xs) h = rw (not-true (is_blank c) (and_parts (not (is_blank c)) (list_all (λ d. not (is_blank d)) xs) h).0) refl

all-reverse : (p : ℕ → Bool) (xs : List ℕ) → list_all p xs ≡ true → list_all p (reverse xs) ≡ true
all-reverse p [] h = refl
all-reverse p (c ∷ xs) h =
    let a = and_parts (p c) (list_all p xs) h in
    let one : list_all p (c ∷ []) ≡ true = and_from (p c) true a.0 refl in
    subst (λ l. list_all p l ≡ true) (sym (reverse-append (c ∷ []) xs)) (all-append p (reverse xs) (c ∷ []) (all-reverse p xs a.1) one)

text_of-bare : (line : List ℕ) → list_all (λ c. not (is_blank c)) line ≡ true → text_of line ≡ line
text_of-bare line none = rw (no_front line none, no_front (reverse line) (all-reverse (λ c. not (is_blank c)) line none)) (take_all (length line - 0) line (omega arith))

-- no byte that passes is a blank
no_blanks : (p : ℕ → Bool) → p 32 ≡ false → p 9 ≡ false → p 13 ≡ false → (xs : List ℕ) → list_all p xs ≡ true → list_all (λ c. not (is_blank c)) xs ≡ true
no_blanks p a b d xs h = all-both p p (λ c. not (is_blank c)) xs at h h
  where
    at : (c : ℕ) → p c ≡ true → p c ≡ true → not (is_blank c) ≡ true
    at c is _ = elim (cases_Bool (is_blank c)) [
      | inl blank ↦ cc (sym is ∙ of_is_blank (λ e. p e ≡ false) a b d c blank)
      | inr other ↦ rw other refl
    ]

to_line : (notation : TextNotation) (line bytes : List ℕ) → list_all (λ c. not (is_blank c)) line ≡ true → text_meaning notation line ≡ Ok bytes
    → blank_ended_meaning notation line ≡ Ok bytes
unfolding blank_ended_meaning
to_line notation line bytes none h = rw (text_of-bare line none, h) refl

-- a text of characters that pass is the line
back : (notation : TextNotation) (p : ℕ → Bool) (text bytes : List ℕ) → p 32 ≡ false → p 9 ≡ false → p 13 ≡ false → p 10 ≡ false
    → list_all p text ≡ true → text_meaning notation text ≡ Ok bytes
    → (line : List ℕ) × (text ++ 10 ∷ [] ≡ line ++ 10 ∷ []) × All (λ byte. byte ≢ 10) line × (blank_ended_meaning notation line ≡ Ok bytes)
back notation p text bytes a b d e all h = (text, refl, no_lf p text e all, to_line notation text bytes (no_blanks p a b d text all) h)

pub prints_back : (notation : TextNotation) → PrintsBack notation
prints_back Hex bytes fits = back Hex is_hex_digit (encode_lower bytes) bytes refl refl refl refl (all-lower bytes fits) (digit_text_meaning-lower bytes fits)
prints_back Base64 bytes fits =
    let text : List ℕ = encode_of (output_encoding Standard) bytes in
    let own = IsBase64Of-output Standard bytes in
    back Base64 (λ c. not (is_skipped c)) text bytes refl refl refl refl (unskipped text bytes fits own) (symbol_text_meaning-accepts text bytes fits own)
prints_back Base64Url bytes fits =
    let text : List ℕ = encode_of (output_encoding UrlSafe) bytes in
    let own = IsBase64Of-output UrlSafe bytes in
    back Base64Url (λ c. not (is_skipped c)) text bytes refl refl refl refl (unskipped text bytes fits own) (symbol_text_meaning-accepts text bytes fits own)
