-- What a base64 text denotes: the cases of its meaning.
use Rattle.key_files.proofs.Common.{◌≡◌, ◌≢◌, ◌<◌, ◌≤◌, ℕ, Bool, true, false, List, [], ◌++◌, length, drop, nat_eq, Option, Some, None, Result, Ok, Err, arith, refl, sym, ap, ◌∙◌, append-nil, inl, inr, subst, ⊤, IfSome, cases_lt, nat_tests, drop_all, IsBytes, IsStrict, SameEngine, decode_of, encode_of, encoded_size_of, DecodeError, GeneralPurpose, decode_of_strict, IsBase64Of, alphabet_of, base64_fault_of, base64_meaning, before_padding, decoded_meaning, encoding, encoding_of, first_foreign, first_no_padding, has_padding, kept, misplaced, place_fault, placed_meaning, symbol_text_meaning, symbols_meaning, DecodesText, IsMeaning, Alphabet, Blanks, FileFault}
use Rattle.base64.specs.declared.decode.DecodeError.TheVariants.{InvalidByte, InvalidLength, InvalidLastSymbol, InvalidPadding}
use Rattle.key_files.specs.declared.base64_text.Alphabet.TheVariants.{Standard, UrlSafe}
use Rattle.key_files.specs.declared.hex_text.Blanks.TheVariants.{Allowed, Refused}
use Rattle.key_files.specs.declared.fault.FileFault.TheVariants.{Read, TooLong, BadDigit, OddDigits, BadCharacter, BehindPadding, BadBase64Length, TrailingBits, Memory}

-- engines with the same tables and configuration decode the same
pub decode_of-same : (a b : GeneralPurpose) (text : List ℕ) → SameEngine a b → decode_of a text ≡ decode_of b text
decode_of-same a b text same = rw (same.1, same.2, same.3) refl

-- what an engine of the text's encoding decodes
pub symbols_meaning-is : (e : GeneralPurpose) (text : List ℕ) (decoded : Result (List ℕ) DecodeError) → SameEngine e (encoding_of text)
    → decode_of e text ≡ decoded → symbols_meaning text ≡ decoded_meaning decoded
symbols_meaning-is e text decoded same is = ap decoded_meaning (sym (decode_of-same e (encoding_of text) text same) ∙ is)

-- no character is misplaced
pub symbol_text_meaning-placed : (text : List ℕ) → misplaced Refused text ≡ None → symbol_text_meaning text ≡ symbols_meaning text
unfolding symbol_text_meaning
symbol_text_meaning-placed text h = rw h refl

pub base64_meaning-placed : (text : List ℕ) → misplaced Allowed text ≡ None → base64_meaning text ≡ symbols_meaning (kept text)
unfolding base64_meaning
base64_meaning-placed text h = rw h refl

-- a character is misplaced
pub symbol_text_meaning-misplaced : (text : List ℕ) (fault : FileFault) → misplaced Refused text ≡ Some fault → symbol_text_meaning text ≡ Err fault
unfolding symbol_text_meaning
symbol_text_meaning-misplaced text fault h = rw h refl

pub base64_meaning-misplaced : (text : List ℕ) (fault : FileFault) → misplaced Allowed text ≡ Some fault → base64_meaning text ≡ Err fault
unfolding base64_meaning
base64_meaning-misplaced text fault h = rw h refl

-- the faults of base64
abbrev pub IsOfBase64 : FileFault → Type 0
IsOfBase64 (BadCharacter at) = ⊤
IsOfBase64 (BehindPadding at) = ⊤
IsOfBase64 BadBase64Length = ⊤
IsOfBase64 TrailingBits = ⊤
IsOfBase64 fault = ⊥

pub of_engine : (error : DecodeError) → IsOfBase64 (base64_fault_of error)
of_engine (InvalidByte at byte) = tt
of_engine (InvalidLength len) = tt
of_engine (InvalidLastSymbol at symbol value) = tt
of_engine InvalidPadding = tt

of_place : (foreign : Option ℕ) (before : ℕ) (behind : Option ℕ) → IfSome (place_fault foreign before behind) IsOfBase64
of_place (Some at) before behind = tt
of_place None before (Some at) = tt
of_place None before None = tt

pub of_misplaced : (blanks : Blanks) (text : List ℕ) (fault : FileFault) → misplaced blanks text ≡ Some fault → IsOfBase64 fault
of_misplaced blanks text fault is = subst (λ found. IfSome found IsOfBase64) is
    (of_place (first_foreign blanks text) (before_padding text) (first_no_padding blanks (drop (before_padding text) text)))

-- such a fault is the answer for a text with this meaning
pub DecodesText-base64 : (meaning : Result (List ℕ) FileFault) (bytes : List ℕ) (fault : FileFault) → IsOfBase64 fault → meaning ≡ Err fault
    → DecodesText meaning bytes (Err fault)
DecodesText-base64 meaning bytes Read own is = absurd own
DecodesText-base64 meaning bytes TooLong own is = absurd own
DecodesText-base64 meaning bytes (BadDigit at) own is = is
DecodesText-base64 meaning bytes OddDigits own is = is
DecodesText-base64 meaning bytes (BadCharacter at) own is = is
DecodesText-base64 meaning bytes (BehindPadding at) own is = is
DecodesText-base64 meaning bytes BadBase64Length own is = is
DecodesText-base64 meaning bytes TrailingBits own is = is
DecodesText-base64 meaning bytes Memory own is = tt

pub IsMeaning-fault : (meaning : Result (List ℕ) FileFault) (fault : FileFault) → meaning ≡ Err fault → IsMeaning (Err fault) meaning
IsMeaning-fault meaning Read is = tt
IsMeaning-fault meaning TooLong is = is
IsMeaning-fault meaning (BadDigit at) is = is
IsMeaning-fault meaning OddDigits is = is
IsMeaning-fault meaning (BadCharacter at) is = is
IsMeaning-fault meaning (BehindPadding at) is = is
IsMeaning-fault meaning BadBase64Length is = is
IsMeaning-fault meaning TrailingBits is = is
IsMeaning-fault meaning Memory is = tt

-- a text is never too long
symbols-never_long : (decoded : Result (List ℕ) DecodeError) → decoded_meaning decoded ≢ Err TooLong
symbols-never_long (Ok bytes) h = cc h
symbols-never_long (Err error) h =
    let same : base64_fault_of error ≡ TooLong = cc h in
    subst IsOfBase64 same (of_engine error)

placed-never_long : (foreign : Option ℕ) (before : ℕ) (behind : Option ℕ) (text : List ℕ)
    → placed_meaning (place_fault foreign before behind) text ≢ Err TooLong
placed-never_long (Some at) before behind text h = cc h
placed-never_long None before (Some at) text h = cc h
placed-never_long None before None text h = symbols-never_long (decode_of (encoding_of text) text) h

pub base64_meaning-never_long : (text : List ℕ) → base64_meaning text ≢ Err TooLong
unfolding base64_meaning
base64_meaning-never_long text h =
    placed-never_long (first_foreign Allowed text) (before_padding text) (first_no_padding Allowed (drop (before_padding text) text)) (kept text) h

-- a buffer that an encoding of k bytes fills; k is a variable here, which is much quicker to prove
filled_of : {F : Type 0} (k : ℕ) (encoded old new : List ℕ) (n : ℕ) (answer : Result ℕ F) (error : F) → answer ≡ Ok n
    → (k ≤ length old → answer ≡ Ok k) → (length old < k → answer ≡ Err error) → new ≡ encoded ++ drop k old
    → length new ≡ length old → nat_eq n (length new) ≡ true → new ≡ encoded
filled_of k encoded old new n answer error is fits small written same whole = elim (cases_lt (length old) k) [
  | inl lt ↦ cc (sym is ∙ small lt)
  | inr ge ↦
      let size : n ≡ k = cc (sym is ∙ fits ge) in
      let all : n ≡ length new = grind (arith, nat_tests) in
      let none : drop k old ≡ [] = drop_all k old (omega (arith, size, all)) in
      written ∙ ap (λ rest. encoded ++ rest) none ∙ append-nil encoded
]

-- an output that the encoding fills
pub filled : {F : Type 0} (e : GeneralPurpose) (bytes old new : List ℕ) (n : ℕ) (answer : Result ℕ F) (error : F) → answer ≡ Ok n
    → (encoded_size_of e (length bytes) ≤ length old → answer ≡ Ok (encoded_size_of e (length bytes)))
    → (length old < encoded_size_of e (length bytes) → answer ≡ Err error) → new ≡ encode_of e bytes ++ drop (encoded_size_of e (length bytes)) old
    → length new ≡ length old → nat_eq n (length new) ≡ true → new ≡ encode_of e bytes
filled e bytes old new n answer error is fits small written same whole =
    filled_of (encoded_size_of e (length bytes)) (encode_of e bytes) old new n answer error is fits small written same whole

-- engines with the same tables and configuration encode the same
pub encode_of-same : (a b : GeneralPurpose) (bytes : List ℕ) → SameEngine a b → encode_of a bytes ≡ encode_of b bytes
encode_of-same a b bytes same = rw (same.0, same.2, same.3) refl

-- the engine of a text's encoding decodes nothing but encodings
IsStrict-encoding : (alphabet : Alphabet) (padded : Bool) → IsStrict (encoding alphabet padded)
IsStrict-encoding Standard false = (refl, refl)
IsStrict-encoding Standard true = (refl, refl)
IsStrict-encoding UrlSafe false = (refl, refl)
IsStrict-encoding UrlSafe true = (refl, refl)

-- what it decodes is what the text encodes
pub IsBase64Of-decoded : (e : GeneralPurpose) (text bytes : List ℕ) → SameEngine e (encoding_of text) → IsBytes text
    → decode_of e text ≡ Ok bytes → IsBase64Of text bytes
IsBase64Of-decoded e text bytes same fits is =
    let alphabet = alphabet_of text in
    let padded = has_padding text in
    let decoded = sym (decode_of-same e (encoding_of text) text same) ∙ is in
    (alphabet, padded, decode_of_strict (encoding alphabet padded) text bytes (IsStrict-encoding alphabet padded) fits decoded)
