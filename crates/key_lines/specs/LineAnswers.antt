-- What a job and a run make of lines.
use Rattle.std.specs.Prelude.{◌≡◌, ⊤, ℕ, ◌+◌, List, [], ◌∷◌, ◌++◌, Option, Some, None, Result, Ok, Err}
use Rattle.key_files.specs.Writing.{IsLine}
use Rattle.key_files.specs.declared.fault.FileFault.{FileFault}
use Rattle.key_files.specs.declared.fault.FileFault.TheVariants as files
use Rattle.key_lines.specs.declared.fault.LineFault.{LineFault}
use Rattle.key_lines.specs.declared.fault.LineFault.TheVariants.{Input, Refused, Memory}
use Rattle.key_lines.specs.declared.fault.RefusedLine.{RefusedLine}
use Rattle.key_lines.specs.declared.job.Note.{Note}
use Rattle.key_lines.specs.declared.job.Note.TheVariants as notes

-- the text that a call made, or its refusal
abbrev pub made : {R : Type 0} → List ℕ → Result Unit R → Result (List ℕ) R
made output (Ok done) = Ok output
made output (Err refusal) = Err refusal

-- an answer: its text, and the note on it
pub record Answer : Type 0 where
  pub text : List ℕ
  pub note : Note

-- the answer that a call made, or its refusal
abbrev pub answered : {R : Type 0} → List ℕ → Result Note R → Result Answer R
answered text (Ok note) = Ok (record { text = text; note = note })
answered text (Err refusal) = Err refusal

-- what a call has for bytes: their answer with this text, their refusal, or no memory
abbrev pub IsAnswered : {R : Type 0} → (Result Answer R → Type 0) → Type 0 → List ℕ → Result Note (LineFault R) → Type 0
IsAnswered answers lacks text (Ok note) = answers (Ok (record { text = text; note = note }))
IsAnswered answers lacks text (Err (Refused refusal)) = answers (Err refusal)
IsAnswered answers lacks text (Err Memory) = lacks
IsAnswered answers lacks text (Err fault) = ⊥

-- the fault of a line for a fault of its text
abbrev pub line_fault_of : {R : Type 0} → FileFault → LineFault R
line_fault_of files.Memory = Memory
line_fault_of fault = Input fault

-- what is written for a line: its answer, or an empty line if it was refused
abbrev pub output_of : {R : Type 0} → Result Answer R → List ℕ
output_of (Ok answer) = answer.text
output_of (Err refusal) = 10 ∷ []

-- the answers of a job are lines
abbrev pub AreLines : {R : Type 0} → (List ℕ → Result Answer R → Type 0) → Type 0
AreLines answers = (X : List ℕ) (answer : Answer) → answers X (Ok answer) → IsLine answer.text

-- each output is one of these lines, in order, and an LF
abbrev pub AreOneEach : (outputs lines : List (List ℕ)) → Type 0
AreOneEach [] [] = ⊤
AreOneEach (output ∷ outputs) (line ∷ lines) = (output ≡ line ++ 10 ∷ []) × AreOneEach outputs lines
AreOneEach outputs lines = ⊥

-- the line with this number, if it was refused
abbrev pub refusal_of : {R : Type 0} → ℕ → Result Answer (LineFault R) → List (RefusedLine R)
refusal_of number (Ok answer) = []
refusal_of number (Err fault) = record { line = number; fault = fault } ∷ []

-- the refused lines, of lines whose first has this number
abbrev pub refusals_of : {R : Type 0} → ℕ → List (Result Answer (LineFault R)) → List (RefusedLine R)
refusals_of number [] = []
refusals_of number (result ∷ results) = refusal_of number result ++ refusals_of (number + 1) results

-- how many answers have a note
abbrev pub note_count : Note → ℕ
note_count notes.None = 0
note_count notes.NoKey = 1
note_count notes.AlreadyNew = 1

abbrev pub notes_of : {R : Type 0} → List (Result Answer R) → ℕ
notes_of [] = 0
notes_of (Ok answer ∷ results) = note_count answer.note + notes_of results
notes_of (Err refusal ∷ results) = notes_of results

-- a log received these lines, if it is known what it received
abbrev pub Logs : {R : Type 0} → Option (List (RefusedLine R)) → Option (List (RefusedLine R)) → List (RefusedLine R) → Type 0
Logs None new refused = ⊤
Logs (Some xs) None refused = ⊥
Logs (Some xs) (Some ys) refused = ys ≡ xs ++ refused
