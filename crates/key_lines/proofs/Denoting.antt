-- What a line denotes, from what its text denotes, and the answer if it denotes no bytes.
use Rattle.key_lines.proofs.Common.{◌≡◌, ℕ, ◌≤◌, List, length, Result, Ok, Err, inl, inr, refl, ap, ◌∙◌, prefix_len, DecodesText, fault_behind, FileFault, Answer, IsAnswered, answered, line_fault_of, blank_ended_meaning, is_blank, line_limit, line_meaning, meaning_behind, text_meaning, text_of, MakesAnswer, LineFault, Note, TextNotation}
use Rattle.key_files.proofs.Denoting.{file_meaning-within}
use Rattle.key_files.specs.declared.fault.FileFault.TheVariants.{Read, TooLong, BadDigit, OddDigits, BadCharacter, BehindPadding, BadBase64Length, TrailingBits, Memory}
use Rattle.key_lines.specs.declared.fault.LineFault.TheVariants as line_faults

-- a line denotes what its text does
pub blank_ended_meaning-is : (notation : TextNotation) (line : List ℕ) (meaning : Result (List ℕ) FileFault)
    → text_meaning notation (text_of line) ≡ meaning → blank_ended_meaning notation line ≡ meaning_behind (prefix_len is_blank line) meaning
unfolding blank_ended_meaning
blank_ended_meaning-is notation line meaning h = ap (meaning_behind (prefix_len is_blank line)) h

pub DecodesText-line : (notation : TextNotation) (line bytes : List ℕ) (fault : FileFault)
    → DecodesText (text_meaning notation (text_of line)) bytes (Err fault)
    → DecodesText (blank_ended_meaning notation line) bytes (Err (fault_behind (prefix_len is_blank line) fault))
DecodesText-line notation line bytes Read d = d
DecodesText-line notation line bytes TooLong d = d
DecodesText-line notation line bytes (BadDigit at) d = blank_ended_meaning-is notation line _ d
DecodesText-line notation line bytes OddDigits d = blank_ended_meaning-is notation line _ d
DecodesText-line notation line bytes (BadCharacter at) d = blank_ended_meaning-is notation line _ d
DecodesText-line notation line bytes (BehindPadding at) d = blank_ended_meaning-is notation line _ d
DecodesText-line notation line bytes BadBase64Length d = blank_ended_meaning-is notation line _ d
DecodesText-line notation line bytes TrailingBits d = blank_ended_meaning-is notation line _ d
DecodesText-line notation line bytes Memory d = tt

-- a line within the limit
pub line_meaning-within : (notation : TextNotation) (line : List ℕ) → length line ≤ line_limit
    → line_meaning notation line ≡ blank_ended_meaning notation line
line_meaning-within notation line fits = file_meaning-within (blank_ended_meaning notation) line_limit line fits

-- why a line denotes no bytes
pub MakesAnswer-input : {R : Type 0} (notation : TextNotation) (answers : List ℕ → Result Answer R → Type 0) (line bytes : List ℕ)
    (fault : FileFault) → length line ≤ line_limit → DecodesText (blank_ended_meaning notation line) bytes (Err fault)
    → MakesAnswer notation answers line (Err (line_fault_of fault))
MakesAnswer-input notation answers line bytes Memory fits d = inl refl
MakesAnswer-input notation answers line bytes Read fits d = absurd d
MakesAnswer-input notation answers line bytes TooLong fits d = absurd d
MakesAnswer-input notation answers line bytes (BadDigit at) fits d = inr (refl, line_meaning-within notation line fits ∙ d)
MakesAnswer-input notation answers line bytes OddDigits fits d = inr (refl, line_meaning-within notation line fits ∙ d)
MakesAnswer-input notation answers line bytes (BadCharacter at) fits d = inr (refl, line_meaning-within notation line fits ∙ d)
MakesAnswer-input notation answers line bytes (BehindPadding at) fits d = inr (refl, line_meaning-within notation line fits ∙ d)
MakesAnswer-input notation answers line bytes BadBase64Length fits d = inr (refl, line_meaning-within notation line fits ∙ d)
MakesAnswer-input notation answers line bytes TrailingBits fits d = inr (refl, line_meaning-within notation line fits ∙ d)

-- the answer of a job to the bytes that a line denotes
pub MakesAnswer-job : {R : Type 0} (notation : TextNotation) (answers : List ℕ → Result Answer R → Type 0) (lacks : Type 0)
    (line bytes output : List ℕ) (result : Result Note (LineFault R)) → line_meaning notation line ≡ Ok bytes
    → IsAnswered (answers bytes) lacks output result → MakesAnswer notation answers line (answered output result)
MakesAnswer-job notation answers lacks line bytes output (Ok _) is h = (bytes, is, h)
MakesAnswer-job notation answers lacks line bytes output (Err (line_faults.Refused refusal)) is h = inr (refl, (bytes, is, h))
MakesAnswer-job notation answers lacks line bytes output (Err line_faults.Memory) is h = inl refl
MakesAnswer-job notation answers lacks line bytes output (Err (line_faults.Input fault)) is h = absurd h
MakesAnswer-job notation answers lacks line bytes output (Err line_faults.TooManyLines) is h = absurd h
