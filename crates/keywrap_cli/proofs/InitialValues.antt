-- 16 hex digits denote what `hex` decodes: the digits of each byte are the byte of the number at their place. Then the
-- answer for a text, in each of the three cases.
use Rattle.keywrap_cli.proofs.Common.{◌≡◌, ◌↔◌, ◌<◌, ◌+◌, ◌*◌, ◌%◌, ℕ, true, List, [], ◌∷◌, length, Some, Result, Ok, Err, false, refl, sym, ap, ◌∙◌, arith, AllPass, nat_tests, IsReserved}
use Rattle.std.proofs.Common.{MatchResult}
use Rattle.std.specs.Char.{digit_value}
use Rattle.std.specs.Int.Digits.{number_from_digits, number_from_digits_after}
use Rattle.std.specs.Result.{is_err}
use Rattle.std.specs.Str.Parse.{AllDigits, digits_value_after}
use Rattle.std.proofs.lemmas.List.Elements.{All-head, All-tail}
use Rattle.byteorder.specs.Endian.{big_number}
use Rattle.hex.specs.Hex.{decode_pairs, decode_sized, hex_digit_value, is_hex_digit, pair_value}
use Rattle.hex.specs.declared.error.FromHexError.{FromHexError}
use Rattle.hex.proofs.HexLemmas.{IsOk-decode_sized, IsOk-written, decode_pairs-ok}
use Rattle.hex.proofs.Pairs.{cons_byte, decode_pairs-ok_pair, decode_sized-pairs}
use Rattle.keywrap_cli.specs.InitialValue.{DenotesIv, IsSixteenDigits}
use Rattle.keywrap_cli.specs.declared.initial_value.IvFault.{IvFault}
use Rattle.keywrap_cli.specs.declared.initial_value.IvFault.TheVariants.{NotSixteenDigits, Reserved}

-- a digit is one by both definitions, and has the same value
digit_read : (c : ℕ) → digit_value c < 16 → hex_digit_value c ≡ Some (digit_value c)
digit_read c h = grind (arith, nat_tests)

digit_small : (c : ℕ) → is_hex_digit c ≡ true → digit_value c < 16
digit_small c h = grind (arith, nat_tests)

all_digits : (text : List ℕ) → AllPass is_hex_digit text → AllDigits 16 text
all_digits [] h = tt
all_digits (c ∷ text) h =
    (digit_small c (All-head (λ d. is_hex_digit d ≡ true) c text h), all_digits text (All-tail (λ d. is_hex_digit d ≡ true) c text h))

-- digits in pairs decode to the bytes of the number that they write, after a number n
decoded : (i n : ℕ) (text : List ℕ) → length text % 2 ≡ 0 → AllDigits 16 text
    → (bytes : List ℕ) × (decode_pairs i text ≡ Ok bytes) × (number_from_digits_after 256 n bytes ≡ digits_value_after 16 n text)
unfolding decode_pairs
decoded i n [] even h = ([], refl, refl)
decoded i n (a ∷ []) even h = absurd (omega arith)
decoded i n (a ∷ b ∷ rest) even h =
    let high = digit_read a h.0 in
    let low = digit_read b h.1.0 in
    let others = decoded (i + 2) ((n * 16 + digit_value a) * 16 + digit_value b) rest (omega arith) h.1.1 in
    let pair : pair_value a b i ≡ Ok (digit_value a * 16 + digit_value b) = rw (high, low) refl in
    let place : n * 256 + (digit_value a * 16 + digit_value b) ≡ (n * 16 + digit_value a) * 16 + digit_value b = omega arith in (
      (digit_value a * 16 + digit_value b) ∷ others.0,
      decode_pairs-ok_pair i a b _ rest pair ∙ ap (cons_byte (digit_value a * 16 + digit_value b)) others.1,
      ap (λ (m : ℕ). number_from_digits_after 256 m others.0) place ∙ others.2,
    )

eight_bytes : (bytes : List ℕ) → length bytes ≡ 8 → number_from_digits 256 bytes ≡ big_number 8 bytes
eight_bytes [] eight = absurd (omega arith)
eight_bytes (a ∷ []) eight = absurd (omega arith)
eight_bytes (a ∷ b ∷ []) eight = absurd (omega arith)
eight_bytes (a ∷ b ∷ c ∷ []) eight = absurd (omega arith)
eight_bytes (a ∷ b ∷ c ∷ d ∷ []) eight = absurd (omega arith)
eight_bytes (a ∷ b ∷ c ∷ d ∷ e ∷ []) eight = absurd (omega arith)
eight_bytes (a ∷ b ∷ c ∷ d ∷ e ∷ f ∷ []) eight = absurd (omega arith)
eight_bytes (a ∷ b ∷ c ∷ d ∷ e ∷ f ∷ g ∷ []) eight = absurd (omega arith)
eight_bytes (a ∷ b ∷ c ∷ d ∷ e ∷ f ∷ g ∷ h ∷ []) eight = omega arith
eight_bytes (a ∷ b ∷ c ∷ d ∷ e ∷ f ∷ g ∷ h ∷ k ∷ rest) eight = absurd (omega arith)

-- what a text of 16 digits denotes
denoted : (text : List ℕ) → IsSixteenDigits text → (bytes : List ℕ) × (decode_sized text 8 ≡ Ok bytes) × DenotesIv text (big_number 8 bytes)
denoted text digits =
    let sixteen = digits.sixteen in
    let d = decoded 0 0 text (omega arith) digits.digits in
    let len = (decode_pairs-ok 0 text d.0 d.1).1 in
    let eight : length d.0 ≡ 8 = omega arith in (
      d.0,
      decode_sized-pairs text 8 (omega arith) (omega arith) ∙ d.1,
      record { digits = digits; value = sym (eight_bytes d.0 eight) ∙ d.2 },
    )

-- the decoding's answer: a text that is decoded is 16 digits and denotes the word of its bytes, and no other is
pub of_decoded : (text out : List ℕ) (r : Result Unit FromHexError)
    → MatchResult (decode_sized text 8) (λ bytes. (r ≡ Ok tt) × (out ≡ bytes)) (λ e. r ≡ Err e) → is_err r ≡ false
    → DenotesIv text (big_number 8 out)
of_decoded text out (Err e) h ok = cc ok
of_decoded text out (Ok done) h ok =
    let parts = (IsOk-decode_sized text 8).0 ((IsOk-written _ (Ok done) out h).0 refl) in
    let found = denoted text (record { sixteen = parts.0; digits = all_digits text parts.1 }) in
    let same : out ≡ found.0 = (rw found.1 at h).1 in
    rw same found.2

pub of_refused : (text out : List ℕ) (r : Result Unit FromHexError)
    → MatchResult (decode_sized text 8) (λ bytes. (r ≡ Ok tt) × (out ≡ bytes)) (λ e. r ≡ Err e) → is_err r ≡ true
    → ¬ IsSixteenDigits text
of_refused text out (Ok done) h refused digits = cc refused
of_refused text out (Err e) h refused digits = let read = (rw (denoted text digits).1 at h).0 in cc read

-- what is answered for a text
pub record IsAnswered (text : List ℕ) (answer : Result ℕ IvFault) : Type 0 where
  pub value : (iv : ℕ) → (answer ≡ Ok iv) ↔ (DenotesIv text iv × ¬ IsReserved iv)
  pub not_digits : (answer ≡ Err NotSixteenDigits) ↔ ¬ IsSixteenDigits text
  pub reserved : (answer ≡ Err Reserved) ↔ ((iv : ℕ) × DenotesIv text iv × IsReserved iv)

pub no_digits : (text : List ℕ) → ¬ IsSixteenDigits text → IsAnswered text (Err NotSixteenDigits)
no_digits text others = record {
  value = λ iv. (λ e. cc e, λ d. absurd (others d.0.digits));
  not_digits = (λ e. others, λ h. refl);
  reserved = (λ e. cc e, λ d. absurd (others d.1.digits));
}

-- a text denotes one value
same_value : (text : List ℕ) (iv other : ℕ) → DenotesIv text iv → DenotesIv text other → iv ≡ other
same_value text iv other a b = a.value ∙ sym b.value

pub free_value : (text : List ℕ) (iv : ℕ) → DenotesIv text iv → ¬ IsReserved iv → IsAnswered text (Ok iv)
free_value text iv h free = record {
  value = λ other. (λ e. let same : iv ≡ other = cc in rw (sym same) (h, free), λ d. ap Ok (same_value text iv other h d.0));
  not_digits = (λ e. cc e, λ others. absurd (others h.digits));
  reserved = (λ e. cc e, λ d. let same = same_value text iv d.0 h d.1 in absurd (free (rw same d.2)));
}

pub reserved_value : (text : List ℕ) (iv : ℕ) → DenotesIv text iv → IsReserved iv → IsAnswered text (Err Reserved)
reserved_value text iv h is = record {
  value = λ other. (λ e. cc e, λ d. let same = same_value text other iv d.0 h in absurd (d.1 (rw same is)));
  not_digits = (λ e. cc e, λ others. absurd (others h.digits));
  reserved = (λ e. (iv, h, is), λ d. refl);
}
