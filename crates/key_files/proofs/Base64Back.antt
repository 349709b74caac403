-- Base64 files and texts denote exactly the bytes that they encode.
use Rattle.key_files.proofs.Common.{◌≡◌, ◌<◌, ◌+◌, ◌*◌, ◌/◌, ◌%◌, ◌==◌, ◌||◌, ◌⊎◌, inl, inr, not, Bool, true, false, ℕ, zero, suc, List, [], ◌∷◌, ◌++◌, length, drop, replicate, slice_index, Option, Some, None, Result, Ok, Err, arith, refl, sym, ap, ◌∙◌, append-nil, subst, filter, list_all, prefix_len, and_parts, cases_Bool, eqb-true, le-ltb, lt-ltb, not-true, or_cases, position_from-zero, length-append, filter-append, list_all-append, AllPass-from_list_all, IsBytes, IsConsistent, decode_of, encode_of, engine_symbols, GeneralPurpose, decode_of-encode_of, DecodeError, FilesEncode, IsBase64Of, alphabet_at, alphabet_of, base64_line, base64_meaning, before_padding, decoded_meaning, encoding, encoding_of, first_foreign, first_no_padding, first_of_one, has_padding, is_allowed, is_padding, is_standard, is_url_safe, kept, misplaced, output_encoding, place_fault, placed_meaning, symbol_text_meaning, symbols_meaning, Alphabet, Blanks, FileFault, is_allowed_blank, is_skipped, PrintsAs}
use Rattle.std.proofs.lemmas.List.Quantifiers.{position-Some}
use Rattle.base64.specs.Engines.{standard, url_safe_no_pad}
use Rattle.base64.specs.Rfc4648.{encode_symbols, padding_len}
use Rattle.base64.specs.Tables.{all_below}
use Rattle.base64.proofs.Tables.{all_below_at}
use Rattle.key_files.specs.declared.base64_text.Alphabet.TheVariants.{Standard, UrlSafe}
use Rattle.key_files.specs.declared.hex_text.Blanks.TheVariants.{Allowed, Refused}
use Rattle.key_files.proofs.Lists.{IsLine-of, all-both, all-append, all-replicate, all-drop, filter-all, position-none, all-from_none, prefix_len-all, all-behind, all-unfiltered, behind-unfiltered, of_blanks, IsBytes-filter}
use Rattle.key_files.proofs.Base64.{IsBase64Of-decoded, base64_meaning-placed, symbol_text_meaning-placed}

-- ---- the symbols of an encoding

abbrev EachSymbol : (ℕ → Bool) → List ℕ → Type 0
EachSymbol p t = (v : ℕ) → v < 64 → p (slice_index t v) ≡ true

all-symbols : (p : ℕ → Bool) (t bytes : List ℕ) → EachSymbol p t → IsBytes bytes → list_all p (encode_symbols t bytes) ≡ true
unfolding encode_symbols
all-symbols p t [] each fits = refl
all-symbols p t (a ∷ []) each fits =
    let fa : a < 256 = fits 0 in
    rw (each (a / 4) (omega arith), each (a % 4 * 16) (omega arith)) refl
all-symbols p t (a ∷ b ∷ []) each fits =
    let fa : a < 256 = fits 0 in
    let fb : b < 256 = fits 1 in
    rw (each (a / 4) (omega arith), each (a % 4 * 16 + b / 16) (omega arith), each (b % 16 * 4) (omega arith)) refl
all-symbols p t (a ∷ b ∷ c ∷ rest) each fits =
    let fa : a < 256 = fits 0 in
    let fb : b < 256 = fits 1 in
    let fc : c < 256 = fits 2 in
    rw (each (a / 4) (omega arith), each (a % 4 * 16 + b / 16) (omega arith), each (b % 16 * 4 + c / 64) (omega arith), each (c % 64) (omega arith))
    (all-symbols p t rest each (λ k. fits (suc (suc (suc k)))))

-- by the test of each symbol of a table
all-encoded : (p : ℕ → Bool) (t bytes : List ℕ) → all_below (λ v. p (slice_index t v)) 64 ≡ true → IsBytes bytes
    → list_all p (encode_symbols t bytes) ≡ true
all-encoded p t bytes test fits = all-symbols p t bytes (λ v lt. all_below_at (λ w. p (slice_index t w)) 64 v test lt) fits

-- two tables that agree on the symbols that pass
abbrev Agree : (ℕ → Bool) → List ℕ → List ℕ → Type 0
Agree p t u = (v : ℕ) → v < 64 → p (slice_index t v) ≡ true → slice_index t v ≡ slice_index u v

symbols-agree : (p : ℕ → Bool) (t u bytes : List ℕ) → Agree p t u → IsBytes bytes → list_all p (encode_symbols t bytes) ≡ true
    → encode_symbols t bytes ≡ encode_symbols u bytes
unfolding encode_symbols
symbols-agree p t u [] agree fits h = refl
symbols-agree p t u (a ∷ []) agree fits h =
    let fa : a < 256 = fits 0 in
    let at = AllPass-from_list_all p (encode_symbols t (a ∷ [])) h in
    rw (agree (a / 4) (omega arith) (at 0 0 (omega arith)), agree (a % 4 * 16) (omega arith) (at 1 0 (omega arith))) refl
symbols-agree p t u (a ∷ b ∷ []) agree fits h =
    let fa : a < 256 = fits 0 in
    let fb : b < 256 = fits 1 in
    let at = AllPass-from_list_all p (encode_symbols t (a ∷ b ∷ [])) h in
    rw (
      agree (a / 4) (omega arith) (at 0 0 (omega arith)),
      agree (a % 4 * 16 + b / 16) (omega arith) (at 1 0 (omega arith)),
      agree (b % 16 * 4) (omega arith) (at 2 0 (omega arith)),
    ) refl
symbols-agree p t u (a ∷ b ∷ c ∷ rest) agree fits h =
    let fa : a < 256 = fits 0 in
    let fb : b < 256 = fits 1 in
    let fc : c < 256 = fits 2 in
    let all : List ℕ = encode_symbols t (a ∷ b ∷ c ∷ rest) in
    let at = AllPass-from_list_all p all h in
    rw (
      agree (a / 4) (omega arith) (at 0 0 (omega arith)),
      agree (a % 4 * 16 + b / 16) (omega arith) (at 1 0 (omega arith)),
      agree (b % 16 * 4 + c / 64) (omega arith) (at 2 0 (omega arith)),
      agree (c % 64) (omega arith) (at 3 0 (omega arith)),
      symbols-agree p t u rest agree (λ k. fits (suc (suc (suc k)))) (all-drop p all 4 h),
    ) refl

-- ---- the alphabet of a text

-- only one alphabet has it
abbrev is_of_one : ℕ → Bool
is_of_one c = is_standard c || is_url_safe c

-- no character that only the URL-safe one has
alphabet_at-Standard : (text : List ℕ) (found : Option ℕ) → first_of_one text ≡ found → list_all (λ c. not (is_url_safe c)) text ≡ true
    → alphabet_at text found ≡ Standard
alphabet_at-Standard text None is none = refl
alphabet_at-Standard text (Some at) is none =
    let first = position-Some is_of_one text at 0 is in
    rw (not-true (is_url_safe (slice_index text at)) (AllPass-from_list_all (λ c. not (is_url_safe c)) text none at 0 first.0)) refl

alphabet_of-Standard : (text : List ℕ) → list_all (λ c. not (is_url_safe c)) text ≡ true → alphabet_of text ≡ Standard
alphabet_of-Standard text none = alphabet_at-Standard text (first_of_one text) refl none

-- no character that only the standard one has
is_standard-foreign : (c : ℕ) → is_standard c ≡ true → is_allowed Allowed UrlSafe c ≡ false
is_standard-foreign c h = elim (or_cases (c == 43) (c == 47) h) [
  | inl plus ↦
      let e : c ≡ 43 = eqb-true c 43 plus in
      rw e refl
  | inr slash ↦
      let e : c ≡ 47 = eqb-true c 47 slash in
      rw e refl
]

of_one-url_safe : (c : ℕ) → is_allowed Allowed UrlSafe c ≡ true → is_of_one c ≡ true → is_url_safe c ≡ true
of_one-url_safe c allowed one = elim (or_cases (is_standard c) (is_url_safe c) one) [
  | inl standard ↦ cc (sym allowed ∙ is_standard-foreign c standard)
  | inr safe ↦ safe
]

of_none-allowed : (blanks : Blanks) (c : ℕ) → is_allowed blanks UrlSafe c ≡ true → not (is_of_one c) ≡ true → is_allowed blanks Standard c ≡ true
of_none-allowed blanks c allowed none = elim (cases_Bool (is_standard c)) [
  | inl standard ↦ cc (rw standard at none)
  | inr other ↦ elim (cases_Bool (is_url_safe c)) [
    | inl safe ↦ cc (rw (other, safe) at none)
    | inr neither ↦ rw other (rw neither at allowed)
  ]
]

-- either it is known to be the URL-safe one, or no character tells which it is
abbrev IsTold : List ℕ → Alphabet → Type 0
IsTold text told = (told ≡ UrlSafe) ⊎ ((told ≡ Standard) × (list_all (λ c. not (is_of_one c)) text ≡ true))

alphabet_at-told : (text : List ℕ) (found : Option ℕ) → first_of_one text ≡ found → list_all (is_allowed Allowed UrlSafe) text ≡ true
    → IsTold text (alphabet_at text found)
alphabet_at-told text None is all =
    inr (refl, all-from_none is_of_one 0 text (sym (position_from-zero is_of_one text) ∙ is))
alphabet_at-told text (Some at) is all =
    let first = position-Some is_of_one text at 0 is in
    let safe = of_one-url_safe (slice_index text at) (AllPass-from_list_all (is_allowed Allowed UrlSafe) text all at 0 first.0) first.1 in
    inl (rw safe refl)

alphabet_of-told : (text : List ℕ) → list_all (is_allowed Allowed UrlSafe) text ≡ true → IsTold text (alphabet_of text)
alphabet_of-told text all = alphabet_at-told text (first_of_one text) refl all

-- ---- no character is misplaced

no_fault : (foreign behind : Option ℕ) (before : ℕ) → foreign ≡ None → behind ≡ None → place_fault foreign before behind ≡ None
no_fault foreign behind before f b = rw (f, b) refl

misplaced-none : (blanks : Blanks) (text : List ℕ) → list_all (is_allowed blanks (alphabet_of text)) text ≡ true
    → list_all (λ c. is_padding c || is_allowed_blank blanks c) (drop (before_padding text) text) ≡ true → misplaced blanks text ≡ None
misplaced-none blanks text allowed behind =
    no_fault (first_foreign blanks text) (first_no_padding blanks (drop (before_padding text) text)) (before_padding text)
    (position-none (is_allowed blanks (alphabet_of text)) text allowed)
    (position-none (λ c. is_padding c || is_allowed_blank blanks c) (drop (before_padding text) text) behind)

-- ---- the text decodes to the bytes

IsConsistent-encoding : (alphabet : Alphabet) (padded : Bool) → IsConsistent (encoding alphabet padded)
IsConsistent-encoding Standard false = refl
IsConsistent-encoding Standard true = refl
IsConsistent-encoding UrlSafe false = refl
IsConsistent-encoding UrlSafe true = refl

symbols_meaning-encoded : (text bytes : List ℕ) (alphabet : Alphabet) (padded : Bool) → alphabet_of text ≡ alphabet → has_padding text ≡ padded
    → text ≡ encode_of (encoding alphabet padded) bytes → IsBytes bytes → symbols_meaning text ≡ Ok bytes
symbols_meaning-encoded text bytes alphabet padded a p is fits =
    let e : GeneralPurpose = encoding alphabet padded in
    let engine : encoding_of text ≡ e = ap (λ (b : Alphabet). encoding b (has_padding text)) a ∙ ap (λ (b : Bool). encoding alphabet b) p in
    let back = decode_of-encode_of e bytes (IsConsistent-encoding alphabet padded) fits in
    ap decoded_meaning (ap (λ (g : GeneralPurpose). decode_of g text) engine ∙ ap (λ (l : List ℕ). decode_of e l) is ∙ back)

-- no padding, and some
has_padding-none : (symbols : List ℕ) → list_all (λ c. not (is_padding c)) symbols ≡ true → has_padding (symbols ++ []) ≡ false
has_padding-none symbols none =
    le-ltb (before_padding (symbols ++ [])) (length (symbols ++ []))
    (omega (arith, prefix_len-all (λ c. not (is_padding c)) symbols [] none, length-append symbols []))

has_padding-some : (symbols : List ℕ) (n : ℕ) → list_all (λ c. not (is_padding c)) symbols ≡ true → has_padding (symbols ++ replicate (suc n) 61) ≡ true
has_padding-some symbols n none =
    lt-ltb (before_padding (symbols ++ replicate (suc n) 61)) (length (symbols ++ replicate (suc n) 61))
    (omega (arith, prefix_len-all (λ c. not (is_padding c)) symbols (replicate (suc n) 61) none, length-append symbols (replicate (suc n) 61)))

-- ---- a text that encodes bytes, in one alphabet, with padding or without it

abbrev table_of : Alphabet → List ℕ
table_of Standard = engine_symbols standard
table_of UrlSafe = engine_symbols url_safe_no_pad

abbrev symbols_of : Alphabet → List ℕ → List ℕ
symbols_of a bytes = encode_symbols (table_of a) bytes

abbrev text_in : Alphabet → ℕ → List ℕ → List ℕ
text_in a n bytes = symbols_of a bytes ++ replicate n 61

abbrev IsPadding : ℕ → List ℕ → Type 0
IsPadding n bytes = (n ≡ 0) ⊎ (n ≡ padding_len (length bytes))

encoded-text : (a : Alphabet) (p : Bool) (bytes : List ℕ) → (n : ℕ) × IsPadding n bytes × (encode_of (encoding a p) bytes ≡ text_in a n bytes)
encoded-text Standard false bytes = (0, inl refl, refl)
encoded-text Standard true bytes = (padding_len (length bytes), inr refl, refl)
encoded-text UrlSafe false bytes = (0, inl refl, refl)
encoded-text UrlSafe true bytes = (padding_len (length bytes), inr refl, refl)

-- by the test of each symbol, and of the padding
all-text : (p : ℕ → Bool) (a : Alphabet) (n : ℕ) (bytes : List ℕ) → all_below (λ v. p (slice_index (table_of a) v)) 64 ≡ true → p 61 ≡ true → IsBytes bytes
    → list_all p (text_in a n bytes) ≡ true
all-text p a n bytes test pad fits = all-append p (symbols_of a bytes) (replicate n 61) (all-encoded p (table_of a) bytes test fits) (all-replicate p n 61 pad)

unpadded : (a : Alphabet) (bytes : List ℕ) → IsBytes bytes → list_all (λ c. not (is_padding c)) (symbols_of a bytes) ≡ true
unpadded Standard bytes fits = all-encoded (λ c. not (is_padding c)) (table_of Standard) bytes refl fits
unpadded UrlSafe bytes fits = all-encoded (λ c. not (is_padding c)) (table_of UrlSafe) bytes refl fits

bare : (a : Alphabet) (bytes : List ℕ) → text_in a 0 bytes ≡ encode_of (encoding a false) bytes
bare Standard bytes = refl
bare UrlSafe bytes = refl

full : (a : Alphabet) (bytes : List ℕ) → text_in a (padding_len (length bytes)) bytes ≡ encode_of (encoding a true) bytes
full Standard bytes = refl
full UrlSafe bytes = refl

symbols_meaning-in : (a : Alphabet) (n : ℕ) (bytes text : List ℕ) → text ≡ text_in a n bytes → alphabet_of text ≡ a → IsPadding n bytes → IsBytes bytes
    → symbols_meaning text ≡ Ok bytes
symbols_meaning-in a zero bytes text is told pad fits =
    let none : has_padding text ≡ false = ap (λ (l : List ℕ). has_padding l) is ∙ has_padding-none (symbols_of a bytes) (unpadded a bytes fits) in
    symbols_meaning-encoded text bytes a false told none (is ∙ bare a bytes) fits
symbols_meaning-in a (suc n) bytes text is told (inl none) fits = absurd (omega (arith, none))
symbols_meaning-in a (suc n) bytes text is told (inr len) fits =
    let some : has_padding text ≡ true = ap (λ (l : List ℕ). has_padding l) is ∙ has_padding-some (symbols_of a bytes) n (unpadded a bytes fits) in
    symbols_meaning-encoded text bytes a true told some (is ∙ ap (λ k. text_in a k bytes) len ∙ full a bytes) fits

-- by the test of each symbol of two tables
agree_from : (t u : List ℕ) → all_below (λ v. is_of_one (slice_index t v) || (slice_index t v == slice_index u v)) 64 ≡ true
    → Agree (λ c. not (is_of_one c)) t u
agree_from t u h v lt none =
    let case = all_below_at (λ w. is_of_one (slice_index t w) || (slice_index t w == slice_index u w)) 64 v h lt in
    elim (or_cases (is_of_one (slice_index t v)) (slice_index t v == slice_index u v) case) [
      | inl tells ↦ cc (rw tells at none)
      | inr same ↦ eqb-true (slice_index t v) (slice_index u v) same
    ]

-- If no character tells the alphabet, the text is in both.
symbols_meaning-text : (a : Alphabet) (n : ℕ) (bytes : List ℕ) → IsPadding n bytes → IsBytes bytes → symbols_meaning (text_in a n bytes) ≡ Ok bytes
symbols_meaning-text Standard n bytes pad fits =
    let told = alphabet_of-Standard (text_in Standard n bytes) (all-text (λ c. not (is_url_safe c)) Standard n bytes refl refl fits) in
    symbols_meaning-in Standard n bytes (text_in Standard n bytes) refl told pad fits
symbols_meaning-text UrlSafe n bytes pad fits =
    let text : List ℕ = text_in UrlSafe n bytes in
    elim (alphabet_of-told text (all-text (is_allowed Allowed UrlSafe) UrlSafe n bytes refl refl fits)) [
      | inl told ↦ symbols_meaning-in UrlSafe n bytes text refl told pad fits
      | inr untold ↦
          let p : ℕ → Bool = λ c. not (is_of_one c) in
          let symbols : List ℕ = symbols_of UrlSafe bytes in
          let all : list_all p symbols ≡ true =
          (and_parts (list_all p symbols) (list_all p (replicate n 61)) (sym (list_all-append p symbols (replicate n 61)) ∙ untold.1)).0 in
          let same = symbols-agree p (table_of UrlSafe) (table_of Standard) bytes (agree_from (table_of UrlSafe) (table_of Standard) refl) fits all in
          symbols_meaning-in Standard n bytes text (ap (λ (l : List ℕ). l ++ replicate n 61) same) untold.0 pad fits
    ]

-- which characters are allowed in a text, by the characters of its alphabet
allowed-standard : (blanks : Blanks) (text : List ℕ) → list_all (λ c. not (is_url_safe c)) text ≡ true → list_all (is_allowed blanks Standard) text ≡ true
    → list_all (is_allowed blanks (alphabet_of text)) text ≡ true
allowed-standard blanks text none all =
    subst (λ (a : Alphabet). list_all (is_allowed blanks a) text ≡ true) (sym (alphabet_of-Standard text none)) all

allowed-told : (blanks : Blanks) (text : List ℕ) → list_all (is_allowed Allowed UrlSafe) text ≡ true → list_all (is_allowed blanks UrlSafe) text ≡ true
    → list_all (is_allowed blanks (alphabet_of text)) text ≡ true
allowed-told blanks text some all = elim (alphabet_of-told text some) [
  | inl told ↦ subst (λ (a : Alphabet). list_all (is_allowed blanks a) text ≡ true) (sym told) all
  | inr untold ↦
      let both = all-both (is_allowed blanks UrlSafe) (λ c. not (is_of_one c)) (is_allowed blanks Standard) text (of_none-allowed blanks) all untold.1 in
      subst (λ (a : Alphabet). list_all (is_allowed blanks a) text ≡ true) (sym untold.0) both
]

-- a text without blanks
placed-text : (a : Alphabet) (n : ℕ) (bytes : List ℕ) → IsBytes bytes → misplaced Refused (text_in a n bytes) ≡ None
placed-text a n bytes fits =
    misplaced-none Refused (text_in a n bytes) (allowed a)
    (all-behind (λ c. not (is_padding c)) q (symbols_of a bytes) (replicate n 61) (unpadded a bytes fits) (all-replicate q n 61 refl))
  where
    q : ℕ → Bool
    q c = is_padding c || is_allowed_blank Refused c

    allowed : (b : Alphabet) → list_all (is_allowed Refused (alphabet_of (text_in b n bytes))) (text_in b n bytes) ≡ true
    allowed Standard = allowed-standard Refused (text_in Standard n bytes) (all-text (λ c. not (is_url_safe c)) Standard n bytes refl refl fits)
        (all-text (is_allowed Refused Standard) Standard n bytes refl refl fits)
    allowed UrlSafe = allowed-told Refused (text_in UrlSafe n bytes) (all-text (is_allowed Allowed UrlSafe) UrlSafe n bytes refl refl fits)
        (all-text (is_allowed Refused UrlSafe) UrlSafe n bytes refl refl fits)

-- a file with blanks anywhere
placed-file : (a : Alphabet) (n : ℕ) (bytes file : List ℕ) → IsBytes bytes → kept file ≡ text_in a n bytes → misplaced Allowed file ≡ None
placed-file a n bytes file fits is =
    misplaced-none Allowed file (allowed a is)
    (behind-unfiltered p keeps q file (of_blanks (λ c. p c ≡ true) refl refl refl refl) (of_blanks (λ c. q c ≡ true) refl refl refl refl)
    (subst (λ (l : List ℕ). list_all q (drop (prefix_len p l) l) ≡ true) (sym is)
    (all-behind p q (symbols_of a bytes) (replicate n 61) (unpadded a bytes fits) (all-replicate q n 61 refl))))
  where
    keeps : ℕ → Bool
    keeps c = not (is_skipped c)

    p : ℕ → Bool
    p c = not (is_padding c)

    q : ℕ → Bool
    q c = is_padding c || is_skipped c

    each : (r : ℕ → Bool) (b : Alphabet) → kept file ≡ text_in b n bytes → ((c : ℕ) → keeps c ≡ false → r c ≡ true) → list_all r (text_in b n bytes) ≡ true
        → list_all r file ≡ true
    each r b same other h = all-unfiltered r keeps file other (subst (λ (l : List ℕ). list_all r l ≡ true) (sym same) h)

    allowed : (b : Alphabet) → kept file ≡ text_in b n bytes → list_all (is_allowed Allowed (alphabet_of file)) file ≡ true
    allowed Standard same = allowed-standard Allowed file
        (each (λ c. not (is_url_safe c)) Standard same (of_blanks (λ c. not (is_url_safe c) ≡ true) refl refl refl refl)
        (all-text (λ c. not (is_url_safe c)) Standard n bytes refl refl fits))
        (each (is_allowed Allowed Standard) Standard same (of_blanks (λ c. is_allowed Allowed Standard c ≡ true) refl refl refl refl)
        (all-text (is_allowed Allowed Standard) Standard n bytes refl refl fits))
    allowed UrlSafe same =
        let all = each (is_allowed Allowed UrlSafe) UrlSafe same (of_blanks (λ c. is_allowed Allowed UrlSafe c ≡ true) refl refl refl refl)
        (all-text (is_allowed Allowed UrlSafe) UrlSafe n bytes refl refl fits) in
        allowed-told Allowed file all all

-- ---- each encoding is read, and nothing else

pub symbol_text_meaning-accepts : (text bytes : List ℕ) → IsBytes bytes → IsBase64Of text bytes → symbol_text_meaning text ≡ Ok bytes
symbol_text_meaning-accepts text bytes fits (a, p, is) =
    let (n, pad, same) = encoded-text a p bytes in
    let whole : text ≡ text_in a n bytes = is ∙ same in
    subst (λ (l : List ℕ). symbol_text_meaning l ≡ Ok bytes) (sym whole)
    (symbol_text_meaning-placed (text_in a n bytes) (placed-text a n bytes fits) ∙ symbols_meaning-text a n bytes pad fits)

pub base64_meaning-accepts : (file bytes : List ℕ) → IsBytes bytes → IsBase64Of (kept file) bytes → base64_meaning file ≡ Ok bytes
base64_meaning-accepts file bytes fits (a, p, is) =
    let (n, pad, same) = encoded-text a p bytes in
    let whole : kept file ≡ text_in a n bytes = is ∙ same in
    base64_meaning-placed file (placed-file a n bytes file fits whole) ∙ ap (λ (l : List ℕ). symbols_meaning l) whole ∙ symbols_meaning-text a n bytes pad fits

module _ (text bytes : List ℕ) (fits : IsBytes text) where
  encoded : (d : Result (List ℕ) DecodeError) → decode_of (encoding_of text) text ≡ d → decoded_meaning d ≡ Ok bytes → IsBase64Of text bytes
  encoded (Ok x) is same =
      let e : x ≡ bytes = cc same in
      IsBase64Of-decoded (encoding_of text) text bytes (refl, refl, refl, refl) fits (is ∙ ap Ok e)
  encoded (Err error) is same = cc same

  placed-sound : (found : Option FileFault) → placed_meaning found text ≡ Ok bytes → IsBase64Of text bytes
  placed-sound None h = encoded (decode_of (encoding_of text) text) refl h
  placed-sound (Some fault) h = cc h

pub symbol_text_meaning-sound : (text bytes : List ℕ) → IsBytes text → symbol_text_meaning text ≡ Ok bytes → IsBase64Of text bytes
unfolding symbol_text_meaning
symbol_text_meaning-sound text bytes fits h = placed-sound text bytes fits (misplaced Refused text) h

base64_meaning-sound : (file bytes : List ℕ) → IsBytes file → base64_meaning file ≡ Ok bytes → IsBase64Of (kept file) bytes
unfolding base64_meaning
base64_meaning-sound file bytes fits h =
    placed-sound (kept file) bytes (IsBytes-filter (λ c. not (is_skipped c)) file fits) (misplaced Allowed file) h

pub files_encode : FilesEncode
files_encode file bytes = (base64_meaning-accepts file bytes, base64_meaning-sound file bytes)

-- no symbol is left out
kept-text : (a : Alphabet) (n : ℕ) (bytes : List ℕ) → IsBytes bytes → list_all (λ c. not (is_skipped c)) (text_in a n bytes) ≡ true
kept-text Standard n bytes fits = all-text (λ c. not (is_skipped c)) Standard n bytes refl refl fits
kept-text UrlSafe n bytes fits = all-text (λ c. not (is_skipped c)) UrlSafe n bytes refl refl fits

pub unskipped : (text bytes : List ℕ) → IsBytes bytes → IsBase64Of text bytes → list_all (λ c. not (is_skipped c)) text ≡ true
unskipped text bytes fits (a, p, is) =
    let (n, pad, same) = encoded-text a p bytes in
    subst (λ (l : List ℕ). list_all (λ c. not (is_skipped c)) l ≡ true) (sym (is ∙ same)) (kept-text a n bytes fits)

pub kept-encoded : (text bytes : List ℕ) → IsBytes bytes → IsBase64Of text bytes → kept text ≡ text
kept-encoded text bytes fits own = filter-all (λ c. not (is_skipped c)) text (unskipped text bytes fits own)

-- ---- the line of output

-- what is printed is an encoding
pub IsBase64Of-output : (alphabet : Alphabet) (bytes : List ℕ) → IsBase64Of (encode_of (output_encoding alphabet) bytes) bytes
IsBase64Of-output Standard bytes = (Standard, true, refl)
IsBase64Of-output UrlSafe bytes = (UrlSafe, false, refl)

base64_meaning-line : (alphabet : Alphabet) (bytes : List ℕ) → IsBytes bytes → base64_meaning (base64_line alphabet bytes) ≡ Ok bytes
base64_meaning-line alphabet bytes fits =
    let text : List ℕ = encode_of (output_encoding alphabet) bytes in
    let own = IsBase64Of-output alphabet bytes in
    let q : ℕ → Bool = λ c. not (is_skipped c) in
    let same : kept (text ++ 10 ∷ []) ≡ text = filter-append q text (10 ∷ []) ∙ append-nil (filter q text) ∙ kept-encoded text bytes fits own in
    base64_meaning-accepts (base64_line alphabet bytes) bytes fits (subst (λ (l : List ℕ). IsBase64Of l bytes) (sym same) own)

pub prints_base64 : (alphabet : Alphabet) (bytes : List ℕ) → IsBytes bytes → PrintsAs base64_meaning (base64_line alphabet bytes) bytes
prints_base64 alphabet bytes fits =
    let text : List ℕ = encode_of (output_encoding alphabet) bytes in
    (IsLine-of (λ c. not (is_skipped c)) text refl (unskipped text bytes fits (IsBase64Of-output alphabet bytes)), base64_meaning-line alphabet bytes fits)
