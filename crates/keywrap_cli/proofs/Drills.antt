-- The bytes that the text of a drill denotes: within the limit, the bytes of its digits. Such a text is refused only for
-- its digits. So the decoding's answer is the text's answer, by cases.
use Rattle.keywrap_cli.proofs.Common.{◌≡◌, ◌↔◌, ◌||◌, not, position, ℕ, ◌<◌, ◌≤◌, List, length, Vec, Bool, true, false, Option, Some, None, Result, Ok, Err, IsOk, IsErrAnd, refl, sym, ◌∙◌, ap, subst, cond, Global, digits_of, is_skipped, FileFault, drill_meaning, text_fault_of, TextAnswer}
use Rattle.std.proofs.Common.{◌≢◌, IfOk, MatchResult}
use Rattle.std.specs.Prelude.{⊤}
use Rattle.std.proofs.lemmas.Bool.{lt-ltb, le-ltb}
use Rattle.key_files.specs.HexText.{is_hex_digit}
use Rattle.key_files.specs.FileMeaning.{file_meaning, hex_meaning, digits_meaning}
use Rattle.key_files.specs.declared.fault.FileFault.TheVariants as files
use Rattle.key_files.specs.declared.read.TheConstants.{MAX_FILE}
use Rattle.keywrap_cli.specs.declared.drilling.DrillFault.{DrillFault}

-- a text in hex is refused only for a bad digit or for odd digits
abbrev IsHexFault : FileFault → Type 0
IsHexFault (files.BadDigit at) = ⊤
IsHexFault files.OddDigits = ⊤
IsHexFault fault = ⊥

odd_or_paired : (odd : Bool) (bytes : List ℕ) (fault : FileFault) → cond odd (Err files.OddDigits) (Ok bytes) ≡ Err fault → IsHexFault fault
odd_or_paired true bytes fault e = let same : files.OddDigits ≡ fault = cc in subst IsHexFault same tt
odd_or_paired false bytes fault e = cc

spelled_faults : (bad : Option ℕ) (digits : List ℕ) (fault : FileFault) → digits_meaning bad digits ≡ Err fault → IsHexFault fault
spelled_faults (Some at) digits fault e = let same : files.BadDigit at ≡ fault = cc in subst IsHexFault same tt
spelled_faults None digits fault e = odd_or_paired _ _ fault e

hex_faults : (text : List ℕ) (fault : FileFault) → hex_meaning text ≡ Err fault → IsHexFault fault
unfolding hex_meaning
hex_faults text fault e = spelled_faults (position (λ c. not (is_skipped c || is_hex_digit c)) text) (digits_of text) fault e

-- a long text is too long
pub long_text : (text : List ℕ) → MAX_FILE < length text → drill_meaning text ≡ Err files.TooLong
unfolding file_meaning
long_text text h = rw (lt-ltb MAX_FILE (length text) h) refl

-- a short text denotes what its digits do
pub short_text : (text : List ℕ) → length text ≤ MAX_FILE → drill_meaning text ≡ hex_meaning text
unfolding file_meaning
short_text text h = rw (le-ltb MAX_FILE (length text) h) refl

-- what an Ok contains
contained : (r : Result (List ℕ) FileFault) → IsOk r → (X : List ℕ) × (r ≡ Ok X)
contained (Ok X) h = (X, refl)
contained (Err fault) h = cc

-- a drill's fault for a short text that is not decoded
fault_answer : (text : List ℕ) (fault : FileFault) → length text ≤ MAX_FILE
    → (fault ≢ files.Memory → hex_meaning text ≡ Err fault) → (fault ≡ files.Memory → IsOk (hex_meaning text))
    → TextAnswer text (Err (text_fault_of fault))
fault_answer text files.Read short refused memory = absurd (hex_faults text files.Read (refused (λ h. (cc))))
fault_answer text files.TooLong short refused memory = absurd (hex_faults text files.TooLong (refused (λ h. (cc))))
fault_answer text (files.BadCharacter place) short refused memory = absurd (hex_faults text (files.BadCharacter place) (refused (λ h. (cc))))
fault_answer text (files.BehindPadding place) short refused memory = absurd (hex_faults text (files.BehindPadding place) (refused (λ h. (cc))))
fault_answer text files.BadBase64Length short refused memory = absurd (hex_faults text files.BadBase64Length (refused (λ h. (cc))))
fault_answer text files.TrailingBits short refused memory = absurd (hex_faults text files.TrailingBits (refused (λ h. (cc))))
fault_answer text (files.BadDigit at) short refused memory = short_text text short ∙ refused (λ h. (cc))
fault_answer text files.OddDigits short refused memory = short_text text short ∙ refused (λ h. (cc))
fault_answer text files.Memory short refused memory =
    let found = contained (hex_meaning text) (memory refl) in
    (found.0, short_text text short ∙ found.1)

-- what a decoded text says, by cases
pub text_answer : (text : List ℕ) (r : Result (Vec ℕ Global) FileFault) (s : Result (Vec ℕ Global) DrillFault)
    → length text ≤ MAX_FILE
    → IfOk r (λ v. hex_meaning text ≡ Ok v.items)
    → ((fault : FileFault) → fault ≢ files.Memory → (r ≡ Err fault) ↔ (hex_meaning text ≡ Err fault))
    → (r ≡ Err files.Memory → IsOk (hex_meaning text))
    → MatchResult r (λ v. s ≡ Ok v) (λ e. IsErrAnd s (λ d. d ≡ text_fault_of e))
    → TextAnswer text s
text_answer text (Ok v) s short bytes refused memory mapped =
    subst (λ (t : Result (Vec ℕ Global) DrillFault). TextAnswer text t) (sym mapped) (short_text text short ∙ bytes)
text_answer text (Err fault) (Ok w) short bytes refused memory mapped = absurd mapped
text_answer text (Err fault) (Err d) short bytes refused memory mapped =
    subst (λ (e : DrillFault). TextAnswer text (Err e)) (sym mapped)
    (fault_answer text fault short (λ other. (refused fault other).0 refl) (λ same. memory (ap Err same)))
