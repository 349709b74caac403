-- What a run over the lines of an input does. A job is known by `answers`: what it answers to the bytes that a line
-- denotes, which is a text to be written or a refusal.
use Rattle.std.specs.Prelude.{◌≡◌, ◌≢◌, ℕ, ◌+◌, ◌<◌, ◌≤◌, ◌⊎◌, ⊤, Bool, true, false, List, [], ◌∷◌, ◌++◌, length, map, Option, Result, Ok, Err}
use Rattle.std.specs.List.{concat}
use Rattle.std.specs.Io.KnownBytes.{Consumes}
use Rattle.key_lines.specs.LineAnswers.{Answer, AreLines, AreOneEach, Logs, answered, output_of, refusals_of}
use Rattle.key_lines.specs.Block.{Sends}
use Rattle.key_files.specs.declared.fault.FileFault.TheVariants as files
use Rattle.key_lines.specs.Lines.{lines_of, EndsWithLf, EndsLine}
use Rattle.key_lines.specs.LineMeaning.{line_limit, line_meaning}
use Rattle.key_lines.specs.LineReading.{IsAllOf, TakesLine, TakesPart}
use Rattle.key_lines.specs.Summary.{CanAddLine, Summarizes, counted_all}
use Rattle.key_lines.specs.declared.job.Note.{Note}
use Rattle.key_lines.specs.declared.text.TextNotation.{TextNotation}
use Rattle.key_lines.specs.declared.line.Line.{Line}
use Rattle.key_lines.specs.declared.line.Line.TheVariants.{Ended}
use Rattle.key_lines.specs.declared.fault.LineFault.{LineFault}
use Rattle.key_lines.specs.declared.fault.LineFault.TheVariants.{Input, Refused, Memory, TooManyLines}
use Rattle.key_lines.specs.declared.fault.RefusedLine.{RefusedLine}
use Rattle.key_lines.specs.declared.fault.RunFault.{RunFault}
use Rattle.key_lines.specs.declared.fault.RunFault.TheVariants.{AtLine, Write}
use Rattle.key_lines.specs.declared.run.RunOptions.{RunOptions}
use Rattle.key_lines.specs.declared.summary.RunSummary.{RunSummary}

-- The answer to a line: the job's to the bytes that the line denotes, or why it denotes none.
abbrev pub LineAnswer : {R : Type 0} → TextNotation → (List ℕ → Result Answer R → Type 0) → List ℕ → Result Answer (LineFault R) → Type 0
LineAnswer notation answers line (Ok answer) = (X : List ℕ) × (line_meaning notation line ≡ Ok X) × answers X (Ok answer)
LineAnswer notation answers line (Err (Refused refusal)) = (X : List ℕ) × (line_meaning notation line ≡ Ok X) × answers X (Err refusal)
LineAnswer notation answers line (Err (Input fault)) = line_meaning notation line ≡ Err fault
LineAnswer notation answers line (Err fault) = ⊥

-- A line that is refused for itself: it denotes no bytes, or its bytes have no answer.
abbrev pub is_own : {R : Type 0} → LineFault R → Bool
is_own (Refused refusal) = true
is_own (Input (files.BadDigit at)) = true
is_own (Input files.OddDigits) = true
is_own (Input (files.BadCharacter at)) = true
is_own (Input (files.BehindPadding at)) = true
is_own (Input files.BadBase64Length) = true
is_own (Input files.TrailingBits) = true
is_own (Input files.Read) = false
is_own (Input files.TooLong) = false
is_own (Input files.Memory) = false
is_own Memory = false
is_own TooManyLines = false

-- What a run makes of a line: its answer or, if the run continues after refusals, why the line is refused for itself.
abbrev pub LineResult : {R : Type 0} → RunOptions → (List ℕ → Result Answer R → Type 0) → List ℕ → Result Answer (LineFault R) → Type 0
LineResult options answers line (Ok answer) = LineAnswer options.notation answers line (Ok answer)
LineResult options answers line (Err fault) =
    (options.keep_going ≡ true) × (is_own fault ≡ true) × LineAnswer options.notation answers line (Err fault)

-- the results of the lines, one for each and in order
abbrev pub AreResults : {R : Type 0} → RunOptions → (List ℕ → Result Answer R → Type 0) → List (List ℕ) → List (Result Answer (LineFault R)) → Type 0
AreResults options answers [] [] = ⊤
AreResults options answers (line ∷ lines) (result ∷ results) = LineResult options answers line result × AreResults options answers lines results
AreResults options answers lines results = ⊥

-- what is written for lines with these results
abbrev pub written_for : {R : Type 0} → List (Result Answer (LineFault R)) → List ℕ
written_for results = concat (map output_of results)

-- at most one line was taken from the input: a part of it, or all
abbrev pub TakesUpToLine : Option (List ℕ) → Option (List ℕ) → Type 0
TakesUpToLine input input' = (line : List ℕ) × (TakesPart input input' line ⊎ TakesLine input input' line) × (length line ≤ line_limit)

-- A run stops at a line for this fault: what it takes of the line. One that continues after refusals stops for none of these.
abbrev pub StopsFor : {R : Type 0} → RunOptions → (List ℕ → Result Answer R → Type 0) → Option (List ℕ) → Option (List ℕ) → LineFault R → Type 0
StopsFor options answers input input' (Input files.TooLong) = (part : List ℕ) × TakesPart input input' part × (length part ≡ line_limit + 1)
StopsFor options answers input input' (Input files.Read) = (part : List ℕ) × TakesPart input input' part × (length part ≤ line_limit)
StopsFor options answers input input' Memory = TakesUpToLine input input'
StopsFor options answers input input' TooManyLines = input' ≡ input
StopsFor options answers input input' fault =
    (line : List ℕ) × TakesLine input input' line × LineAnswer options.notation answers line (Err fault) × (options.keep_going ≡ false)

-- What the call that makes the answer to a line answers. Memory says nothing of the line.
abbrev pub MakesAnswer : {R : Type 0} → TextNotation → (List ℕ → Result Answer R → Type 0) → List ℕ → Result Answer (LineFault R) → Type 0
MakesAnswer notation answers line (Ok answer) = LineAnswer notation answers line (Ok answer)
MakesAnswer notation answers line (Err fault) = (fault ≡ Memory) ⊎ ((is_own fault ≡ true) × LineAnswer notation answers line (Err fault))

-- What the call that makes what is written for a line answers, and leaves in its output.
abbrev pub MakesOutput : {R : Type 0} → RunOptions → (List ℕ → Result Answer R → Type 0) → List ℕ → List ℕ → Result (Result Note (LineFault R)) (LineFault R) → Type 0
MakesOutput options answers line output (Ok made) = LineResult options answers line (answered output made) × (output ≡ output_of (answered output made))
MakesOutput options answers line output (Err fault) =
    (fault ≡ Memory) ⊎ ((options.keep_going ≡ false) × (is_own fault ≡ true) × LineAnswer options.notation answers line (Err fault))

-- Where the input stands after the writer refused answers: after the last line that was answered, or where the run would
-- have stopped at the next line.
abbrev pub StandsAfter : {R : Type 0} → RunOptions → (List ℕ → Result Answer R → Type 0) → Option (List ℕ) → Option (List ℕ) → Type 0
StandsAfter {R} options answers left input' =
    Consumes left input' [] ⊎ ((fault : LineFault R) × StopsFor options answers left input' fault)

-- How a run ends whose lines had these results: at the end of the input, with a summary of them, or at the next line.
abbrev pub RunEnds : {R : Type 0} → RunOptions → (List ℕ → Result Answer R → Type 0) → List (Result Answer (LineFault R)) → (at_end : Type 0)
    → Option (List ℕ) → Option (List ℕ) → Result (RunSummary R) (RunFault R) → Type 0
RunEnds options answers results at_end input input' (Ok summary) = Summarizes results summary × at_end × Consumes input input' []
RunEnds options answers results at_end input input' (Err (AtLine refused)) =
    (refused.line ≡ length results + 1) × StopsFor options answers input input' refused.fault
RunEnds options answers results at_end input input' (Err (Write answered unsent)) =
    (answered ≡ length results) × StandsAfter options answers input input'

-- The bytes of the answers that did not go out: none, unless the writer refused them.
abbrev pub AreUnsent : {R : Type 0} → List ℕ → Result (RunSummary R) (RunFault R) → Type 0
AreUnsent bytes (Err (Write answered unsent)) = (length bytes ≡ unsent) × (0 < unsent)
AreUnsent bytes answer = bytes ≡ []

-- Lines were taken whole from the input, and these are their results, in order.
pub record TakesLines {R : Type 0} (options : RunOptions) (answers : List ℕ → Result Answer R → Type 0)
    (input input' : Option (List ℕ)) : Type 0 where
  pub taken : List ℕ
  pub results : List (Result Answer (LineFault R))
  pub stands_after : Consumes input input' taken
  pub whole : EndsLine taken ⊎ IsAllOf taken input
  pub answered : AreResults options answers (lines_of taken) results

-- What a run does. Of the input, the writer and the log the record takes what is known before the call and after it.
pub record RunsLines {R : Type 0} (options : RunOptions) (answers : List ℕ → Result Answer R → Type 0)
    (input input' out out' : Option (List ℕ)) (log log' : Option (List (RefusedLine R))) (answer : Result (RunSummary R) (RunFault R)) : Type 0 where
  -- what the input had left once the last line was answered
  pub left : Option (List ℕ)
  pub lines : TakesLines options answers input left
  -- it ends where all of the input was taken, or at the next line
  pub ends : RunEnds options answers lines.results (IsAllOf lines.taken input) left input' answer
  -- the log received the refused lines, each once and in order
  pub logs : Logs log log' (refusals_of 1 lines.results)
  -- the answers went out, but for these bytes
  pub unsent : List ℕ
  pub sends : Sends out out' (written_for lines.results) unsent
  pub all_but : AreUnsent unsent answer

-- What some steps of a run do: lines, or none, were answered, and their results counted, logged, and put into the block,
-- of which a front may have gone out.
pub record Steps {R : Type 0} (options : RunOptions) (answers : List ℕ → Result Answer R → Type 0)
    (input left out out' : Option (List ℕ)) (log log' : Option (List (RefusedLine R))) (block block' : List ℕ) (summary summary' : RunSummary R)
    : Type 0 where
  pub lines : TakesLines options answers input left
  pub sends : Sends out out' (block ++ written_for lines.results) block'
  pub counts : summary' ≡ counted_all summary lines.results
  pub room : CanAddLine summary'
  pub logs : Logs log log' (refusals_of (summary.lines + 1) lines.results)

-- how a step ends that took these bytes: what was found of the next line
abbrev pub StepEnds : {R : Type 0} → RunOptions → (List ℕ → Result Answer R → Type 0) → List ℕ → Option (List ℕ) → Option (List ℕ) → Option (List ℕ)
    → Result Line (LineFault R) → Type 0
StepEnds options answers taken input left input' (Ok Ended) = EndsWithLf taken × (left ≡ input')
StepEnds options answers taken input left input' (Ok found) = IsAllOf taken input × Consumes left input' []
StepEnds options answers taken input left input' (Err fault) = StopsFor options answers left input' fault

-- what the call for the next line does: whether there was one, which then is answered
pub record FindsLine {R : Type 0} (options : RunOptions) (answers : List ℕ → Result Answer R → Type 0)
    (input input' out out' : Option (List ℕ)) (log log' : Option (List (RefusedLine R))) (block block' : List ℕ) (summary summary' : RunSummary R)
    (found : Result Line (LineFault R)) : Type 0 where
  pub left : Option (List ℕ)
  pub steps : Steps options answers input left out out' log log' block block' summary summary'
  pub ends : StepEnds options answers steps.lines.taken input left input' found

-- the same with the block written, unless a line follows: what it ends with, or the line at which the run stops, or what the writer refused
abbrev pub StepsLine : {R : Type 0} → RunOptions → (List ℕ → Result Answer R → Type 0) → Option (List ℕ) → Option (List ℕ) → Option (List ℕ) → Option (List ℕ)
    → Option (List (RefusedLine R)) → Option (List (RefusedLine R)) → List ℕ → List ℕ → RunSummary R → RunSummary R
    → Result Line (RunFault R) → Type 0
StepsLine options answers input input' out out' log log' block block' s s' (Ok found) =
    FindsLine options answers input input' out out' log log' block block' s s' (Ok found) × (found ≢ Ended → block' ≡ [])
StepsLine options answers input input' out out' log log' block block' s s' (Err (AtLine refused)) =
    FindsLine options answers input input' out out' log log' block block' s s' (Err refused.fault) × (refused.line ≡ s'.lines + 1) × (block' ≡ [])
StepsLine {R} options answers input input' out out' log log' block block' s s' (Err (Write answered unsent)) =
    (found : Result Line (LineFault R)) × FindsLine options answers input input' out out' log log' block block' s s' found
    × (answered ≡ s'.lines) × (length block' ≡ unsent) × (0 < unsent)

-- the results of all lines, with a summary of them, or of the lines before a line
abbrev pub Counts : {R : Type 0} → List (Result Answer (LineFault R)) → List (List ℕ) → Result (RunSummary R) (RunFault R) → Type 0
Counts results more (Ok summary) = Summarizes results summary × (more ≡ [])
Counts results more (Err (AtLine refused)) = refused.line ≡ length results + 1
Counts results more (Err (Write answered unsent)) = answered ≡ length results

-- The headline, for an input of these bytes. What was written are the answers to its first lines, in order, and each is
-- the answer of the job to only that line: all lines if the run ended well, else the lines before the line at which it
-- stopped. If the writer refused, the last bytes of these answers did not go out, as many as are counted. If the job
-- answers with lines, line i of the answers is the answer to line i.
pub record WritesAnswers {R : Type 0} (options : RunOptions) (answers : List ℕ → Result Answer R → Type 0) (text : List ℕ)
    (out out' : Option (List ℕ)) (answer : Result (RunSummary R) (RunFault R)) : Type 0 where
  pub lines : List (List ℕ)
  pub more : List (List ℕ)
  pub split : lines_of text ≡ lines ++ more
  pub results : List (Result Answer (LineFault R))
  pub answered : AreResults options answers lines results
  pub counts : Counts results more answer
  pub one_each : AreLines answers → AreOneEach (map output_of results) (lines_of (written_for results))
  pub unsent : List ℕ
  pub sends : Sends out out' (written_for results) unsent
  pub all_but : AreUnsent unsent answer

-- A run whose reader cannot fail ends with no unreadable line.
abbrev pub NoReadFault : {A R : Type 0} → Bool → Result A (RunFault R) → Type 0
NoReadFault {A} {R} can_fail result =
    can_fail ≡ false → (refused : RefusedLine R) → refused.fault ≡ Input files.Read → result ≢ Err (AtLine refused)

-- A run ends for too many lines only at the last number that a line can have.
abbrev pub TooManyAtLast : {A R : Type 0} → Result A (RunFault R) → Type 0
TooManyAtLast {A} {R} result =
    (refused : RefusedLine R) → result ≡ Err (AtLine refused) → refused.fault ≡ TooManyLines → refused.line ≡ 18446744073709551615
