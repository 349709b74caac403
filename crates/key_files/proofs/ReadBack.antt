-- What a file of digits and blanks denotes, and that hex output is one line and denotes the bytes that it was made of.
use Rattle.key_files.proofs.Common.{◌≡◌, ◌||◌, not, true, false, ℕ, List, [], ◌∷◌, ◌++◌, Bool, Option, Some, None, Ok, append-nil, refl, sym, ap, subst, ◌∙◌, filter, list_all, position_from, filter-append, position_from-zero, digits_of, first_bad, hex_line, is_hex_digit, is_skipped, digit_text_meaning, digits_meaning, hex_meaning, PrintsAs}
use Rattle.hex.specs.Hex.{IsBytes, encode_lower}
use Rattle.key_files.specs.declared.hex_text.Blanks.TheVariants.{Allowed, Refused}
use Rattle.key_files.proofs.Lists.{IsLine-of, all-both, all-filter, all-found, all-unfiltered, filter-all, of_blanks, position-none}
use Rattle.key_files.proofs.Strict.{digit_text_meaning-lower}
pub use Rattle.key_files.proofs.Strict.{all-lower}

or_right : (a b : Bool) → b ≡ true → (a || b) ≡ true
or_right true b h = refl
or_right false b h = h

-- a file whose bytes are the digits of a text and blanks
module _ (file text bytes : List ℕ) (digits : filter is_hex_digit file ≡ filter is_hex_digit text)
    (others : filter (λ c. not (is_skipped c)) file ≡ filter (λ c. not (is_skipped c)) text) where
  of_digits : (bad : Option ℕ) → position_from (λ c. not (is_hex_digit c)) 0 text ≡ bad → digits_meaning bad text ≡ Ok bytes
      → hex_meaning file ≡ Ok bytes
  unfolding hex_meaning
  of_digits (Some at) is h = cc h
  of_digits None is h =
      let q : ℕ → Bool = λ c. is_skipped c || is_hex_digit c in
      let keeps : ℕ → Bool = λ c. not (is_skipped c) in
      let all = all-found is_hex_digit 0 text is in
      let each : list_all q text ≡ true = all-both is_hex_digit is_hex_digit q text (λ c d _. or_right (is_skipped c) (is_hex_digit c) d) all all in
      let kept : list_all q (filter keeps file) ≡ true = subst (λ l. list_all q l ≡ true) (sym others) (all-filter q keeps text each) in
      let none : first_bad Allowed file ≡ None =
      position-none q file (all-unfiltered q keeps file (of_blanks (λ c. q c ≡ true) refl refl refl refl) kept) in
      let same : digits_of file ≡ text = digits ∙ filter-all is_hex_digit text all in
      rw (none, same) h

  pub hex_meaning-of_text : digit_text_meaning text ≡ Ok bytes → hex_meaning file ≡ Ok bytes
  unfolding digit_text_meaning
  hex_meaning-of_text h = of_digits (first_bad Refused text) (sym (position_from-zero (λ c. not (is_hex_digit c)) text)) h

hex_meaning-hex_line : (bytes : List ℕ) → IsBytes bytes → hex_meaning (hex_line bytes) ≡ Ok bytes
hex_meaning-hex_line bytes h =
    let text : List ℕ = encode_lower bytes in
    let same : (q : ℕ → Bool) → q 10 ≡ false → filter q (hex_line bytes) ≡ filter q text =
    λ q no. let none : filter q (10 ∷ []) ≡ [] = rw no refl in filter-append q text (10 ∷ []) ∙ ap (λ l. filter q text ++ l) none ∙ append-nil (filter q text) in
    hex_meaning-of_text (hex_line bytes) text bytes (same is_hex_digit refl) (same (λ c. not (is_skipped c)) refl) (digit_text_meaning-lower bytes h)

pub prints_hex : (bytes : List ℕ) → IsBytes bytes → PrintsAs hex_meaning (hex_line bytes) bytes
prints_hex bytes h = (IsLine-of is_hex_digit (encode_lower bytes) refl (all-lower bytes h), hex_meaning-hex_line bytes h)
