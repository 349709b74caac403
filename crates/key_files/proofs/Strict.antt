-- A text of digits that is decoded byte by byte, and the digits that are printed.
use Rattle.key_files.proofs.Common.{◌≡◌, ◌+◌, ◌*◌, ◌/◌, ◌%◌, ◌<◌, ◌≤◌, ◌==◌, ◌&&◌, true, ℕ, suc, List, [], ◌∷◌, ◌++◌, length, take, drop, slice_index, slice_set, Option, Some, None, Ok, arith, refl, sym, ap, ◌∙◌, list_all, agree_below_at, and_parts, eqb-true, nat_tests, first_bad, is_hex_digit, paired, digit_text_meaning, digits_meaning}
use Rattle.std.specs.Char.{digit_value}
use Rattle.std.proofs.lemmas.List.{append_assoc, append-nil, drop_all, take_all, take_more_set}
use Rattle.hex.specs.Hex.{IsBytes, encode_lower, encode_with, lower_digits}
use Rattle.hex.proofs.Pairs.{drop-pair}
use Rattle.key_files.specs.declared.hex_text.Blanks.TheVariants.{Refused}
use Rattle.key_files.proofs.Denoting.{digit_text_meaning-even}
use Rattle.key_files.proofs.Lists.{position-none}

-- The text has only digits if it has only digits from byte 2 * i on, and what is before them is decoded.
pub record DecodedTo (text bytes : List ℕ) (i : ℕ) : Type 0 where
  pub digits : list_all is_hex_digit text ≡ list_all is_hex_digit (drop (2 * i) text)
  pub spelled : paired text ≡ take i bytes ++ paired (drop (2 * i) text)

pub decoded_none : (text bytes : List ℕ) → DecodedTo text bytes 0
decoded_none text bytes = record { digits = refl; spelled = refl }

pub decoded_more : (text bytes : List ℕ) (i v : ℕ) → 2 * i + 1 < length text → i < length bytes
    → is_hex_digit (slice_index text (2 * i)) ≡ true → is_hex_digit (slice_index text (2 * i + 1)) ≡ true
    → v ≡ 16 * digit_value (slice_index text (2 * i)) + digit_value (slice_index text (2 * i + 1))
    → DecodedTo text bytes i → DecodedTo text (slice_set bytes i v) (i + 1)
unfolding paired
decoded_more text bytes i v fits room high low is d =
    let front : List ℕ = take i bytes in
    let rest : List ℕ = drop (2 * (i + 1)) text in
    let pair = drop-pair text i fits in
    let two : list_all is_hex_digit (slice_index text (2 * i) ∷ slice_index text (2 * i + 1) ∷ rest) ≡ list_all is_hex_digit rest = rw (high, low) refl in
    record {
      digits = d.digits ∙ ap (list_all is_hex_digit) pair ∙ two;
      spelled = d.spelled ∙ ap (λ l. front ++ paired l) pair ∙ ap (λ b. front ++ (b ∷ paired rest)) (sym is)
          ∙ sym (append_assoc front (v ∷ []) (paired rest)) ∙ ap (λ l. l ++ paired rest) (sym (take_more_set bytes i v room));
    }

pub decoded_all : (text bytes : List ℕ) (i : ℕ) → length text ≡ 2 * length bytes → length bytes ≤ i → DecodedTo text bytes i
    → digit_text_meaning text ≡ Ok bytes
unfolding paired
decoded_all text bytes i size end d =
    let none = drop_all (2 * i) text (omega (arith, size, end)) in
    let digits : list_all is_hex_digit text ≡ true = d.digits ∙ ap (list_all is_hex_digit) none in
    let spelled : paired text ≡ bytes = d.spelled ∙ ap (λ l. take i bytes ++ paired l) none ∙ append-nil (take i bytes) ∙ take_all i bytes end in
    digit_text_meaning-even text (position-none is_hex_digit text digits) (omega (arith, size)) ∙ ap Ok spelled

-- bytes that a text means are those that its digits spell
pub paired-meant : (text bytes : List ℕ) → digit_text_meaning text ≡ Ok bytes → bytes ≡ paired text
unfolding digit_text_meaning
paired-meant text bytes h = spelled (first_bad Refused text) h
  where
    spelled : (bad : Option ℕ) → digits_meaning bad text ≡ Ok bytes → bytes ≡ paired text
    spelled (Some at) means = cc means
    spelled None means = grind (arith, nat_tests)

-- the digit that is printed for a value
printed : (v : ℕ) → v < 16 → (is_hex_digit (slice_index lower_digits v) ≡ true) × (digit_value (slice_index lower_digits v) ≡ v)
printed v h =
    let all = agree_below_at (λ v. is_hex_digit (slice_index lower_digits v) && (digit_value (slice_index lower_digits v) == v)) (λ _. true) 16 v refl h in
    let two = and_parts _ _ all in (two.0, eqb-true _ _ two.1)

pub all-lower : (bytes : List ℕ) → IsBytes bytes → list_all is_hex_digit (encode_lower bytes) ≡ true
unfolding encode_with
all-lower [] h = refl
all-lower (b ∷ rest) h =
    let fits : b < 256 = h 0 in
    rw ((printed (b / 16) (omega arith)).0, (printed (b % 16) (omega arith)).0) (all-lower rest (λ k. h (suc k)))

paired-lower : (bytes : List ℕ) → IsBytes bytes → (length (encode_lower bytes) % 2 ≡ 0) × (paired (encode_lower bytes) ≡ bytes)
unfolding encode_with paired
paired-lower [] h = (refl, refl)
paired-lower (b ∷ rest) h =
    let fits : b < 256 = h 0 in
    let high = (printed (b / 16) (omega arith)).1 in
    let low = (printed (b % 16) (omega arith)).1 in
    let byte : 16 * digit_value (slice_index lower_digits (b / 16)) + digit_value (slice_index lower_digits (b % 16)) ≡ b = omega (arith, high, low) in
    let more = paired-lower rest (λ k. h (suc k)) in
    (omega (arith, more.0), rw (byte, more.1) refl)

-- what is printed in lower case
pub digit_text_meaning-lower : (bytes : List ℕ) → IsBytes bytes → digit_text_meaning (encode_lower bytes) ≡ Ok bytes
digit_text_meaning-lower bytes fits =
    let text : List ℕ = encode_lower bytes in
    let spelled = paired-lower bytes fits in
    digit_text_meaning-even text (position-none is_hex_digit text (all-lower bytes fits)) (omega (arith, spelled.0)) ∙ ap Ok spelled.1
