-- Files within their limit and past it, and which faults a hex text has.
use Rattle.key_files.proofs.Common.{◌≡◌, ◌≢◌, ◌<◌, ◌≤◌, ◌%◌, ℕ, List, length, Option, Some, None, Result, Ok, Err, arith, refl, sym, ◌∙◌, nat_tests, FileFault, DecodesHex, IsMeaning, answer_of, file_meaning, hex_meaning, digit_text_meaning, digits_meaning, first_bad, digits_of, paired}
use Rattle.key_files.specs.declared.fault.FileFault.TheVariants.{Read, TooLong, BadDigit, OddDigits, BadCharacter, BehindPadding, BadBase64Length, TrailingBits, Memory}
use Rattle.std.specs.declared.vec.Vec.{Vec}
use Rattle.key_files.specs.declared.hex_text.Blanks.TheVariants.{Allowed, Refused}

-- a file within the limit denotes what its bytes do
pub file_meaning-within : (meaning : List ℕ → Result (List ℕ) FileFault) (limit : ℕ) (file : List ℕ) → length file ≤ limit
    → file_meaning meaning limit file ≡ meaning file
unfolding file_meaning
file_meaning-within meaning limit file h = grind (arith, nat_tests)

-- a longer file is too long
pub file_meaning-past : (meaning : List ℕ → Result (List ℕ) FileFault) (limit : ℕ) (file : List ℕ) → limit < length file
    → file_meaning meaning limit file ≡ Err TooLong
unfolding file_meaning
file_meaning-past meaning limit file h = grind (arith, nat_tests)

-- a text of an even number of digits
pub digit_text_meaning-even : (text : List ℕ) → first_bad Refused text ≡ None → length text % 2 ≢ 1 → digit_text_meaning text ≡ Ok (paired text)
unfolding digit_text_meaning
digit_text_meaning-even text h even = rw h (grind (arith, nat_tests))

pub hex_meaning-even : (text : List ℕ) → first_bad Allowed text ≡ None → length (digits_of text) % 2 ≢ 1 → hex_meaning text ≡ Ok (paired (digits_of text))
unfolding hex_meaning
hex_meaning-even text h even = rw h (grind (arith, nat_tests))

-- a text is never too long
digits_meaning-never_long : (bad : Option ℕ) (digits : List ℕ) → digits_meaning bad digits ≢ Err TooLong
digits_meaning-never_long (Some at) digits h = cc h
digits_meaning-never_long None digits h = grind (arith, nat_tests)

pub hex_meaning-never_long : (text : List ℕ) → hex_meaning text ≢ Err TooLong
unfolding hex_meaning
hex_meaning-never_long text h = digits_meaning-never_long (first_bad Allowed text) (digits_of text) h

-- nothing was found
pub none_from : {X : Type 0} (found : Option X) → ((x : X) → found ≢ Some x) → found ≡ None
none_from None h = refl
none_from (Some x) h = absurd (h x refl)

-- such an answer is the meaning of the text
pub DecodesHex-ok : {Z : Type 0} (text : List ℕ) (v : Vec ℕ Z) → hex_meaning text ≡ Ok v.items → DecodesHex text (Ok v)
DecodesHex-ok text v h = record { bytes = h; refused = λ fault other. (λ e. cc e, λ e. let no = sym h ∙ e in cc no); memory = λ e. cc e }

pub DecodesHex-means : {Z : Type 0} (text : List ℕ) (answer : Result (Vec ℕ Z) FileFault) → DecodesHex text answer
    → IsMeaning (answer_of answer) (hex_meaning text)
DecodesHex-means text (Ok v) d = d.bytes
DecodesHex-means text (Err Read) d = tt
DecodesHex-means text (Err Memory) d = tt
DecodesHex-means text (Err TooLong) d = (d.refused TooLong (λ e. cc e)).0 refl
DecodesHex-means text (Err (BadDigit at)) d = (d.refused (BadDigit at) (λ e. cc e)).0 refl
DecodesHex-means text (Err OddDigits) d = (d.refused OddDigits (λ e. cc e)).0 refl
DecodesHex-means text (Err (BadCharacter at)) d = (d.refused (BadCharacter at) (λ e. cc e)).0 refl
DecodesHex-means text (Err (BehindPadding at)) d = (d.refused (BehindPadding at) (λ e. cc e)).0 refl
DecodesHex-means text (Err BadBase64Length) d = (d.refused BadBase64Length (λ e. cc e)).0 refl
DecodesHex-means text (Err TrailingBits) d = (d.refused TrailingBits (λ e. cc e)).0 refl
