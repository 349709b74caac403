-- The effect of an operation. The KEK files, the input and the writer each appear twice: as known before the call and
-- after it. First a run over a whole input and over lines, then an operation under the KEKs that it reads, and what a run
-- that ends with status 0 says of its input.
use Rattle.std.specs.Prelude.{◌≡◌, ◌<◌, ℕ, List, length, map, take, Option, Result, Ok, Err, Vec, IfSome, IsOkAnd, ◌↔◌, ⊤, Bool, IsTrue, IsSome, ◌≢◌, [], ◌∷◌, None}
use Rattle.std.specs.Io.KnownBytes.{Appends, Keeps}
use Rattle.std.specs.declared.alloc.Global.{Global}
use Rattle.std.specs.List.{AllByRecursion, concat}
use Rattle.key_lines.specs.Lines.{lines_of}
use Rattle.key_lines.specs.Running.{RunsLines, WritesAnswers, written_for}
use Rattle.key_lines.specs.LineAnswers.{Answer, AreOneEach, output_of}
use Rattle.key_lines.specs.declared.fault.LineFault.{LineFault}
use Rattle.key_lines.specs.declared.fault.LineFault.TheVariants as line_faults
use Rattle.key_lines.specs.declared.fault.RefusedLine.{RefusedLine}
use Rattle.key_lines.specs.declared.fault.RunFault.{RunFault}
use Rattle.key_lines.specs.declared.run.RunOptions.{RunOptions}
use Rattle.key_lines.specs.declared.summary.RunSummary.{RunSummary}
use Rattle.key_wrap_core.specs.declared.faults.Refusal.{Refusal}
use Rattle.key_wrap_core.specs.declared.faults.Refusal.TheVariants as refusals
use Rattle.fips197.specs.Cipher.{cipher}
use Rattle.key_wrap_core.specs.Rewrap.{to_itself}
use Rattle.key_lines.specs.LineMeaning.{line_meaning}
use Rattle.key_lines.specs.declared.text.TextNotation.{TextNotation}
use Rattle.key_wrap_core.specs.Forms.{IsWrapping, IsWrappingWithIv}
use Rattle.key_wrap_core.specs.declared.forms.Form.{Form}
use Rattle.keywrap_cli.specs.JobAnswers.{done_of, Answers, MayLack, WritesFor}
use Rattle.keywrap_cli.specs.JobReading.{ReadsFile, ReadsInput, UnderKeks}
use Rattle.keywrap_cli.specs.declared.outcome.Done.{Done}
use Rattle.keywrap_cli.specs.declared.outcome.JobFault.{JobFault}
use Rattle.keywrap_cli.specs.declared.outcome.JobFault.TheVariants.{BadLength, Integrity, KeyNotPlain, Write, Memory}
use Rattle.keywrap_cli.specs.declared.files.Notation.{Notation}
use Rattle.keywrap_cli.specs.Files.{line_notation}
use Rattle.keywrap_cli.specs.declared.kek_file.Keks.{Keks}
use Rattle.keywrap_cli.specs.declared.outcome.Outcome.{Outcome}
use Rattle.keywrap_cli.specs.declared.what.What.{What}
use Rattle.keywrap_cli.specs.declared.what.Conversion.TheVariants.{Wrap, Unwrap, UnwrapAny}
use Rattle.keywrap_cli.specs.declared.what.What.TheVariants.{Convert, Check, Rewrap}

-- the run ends with this fault: no byte of the input was read, and no byte was written
abbrev pub IsRefusedBefore : {T E : Type 0} → E → Option (List ℕ) → Option (List ℕ) → Option (List ℕ) → Option (List ℕ)
    → Result T E → Type 0
IsRefusedBefore fault input input' out out' answer = (answer ≡ Err fault) × (input' ≡ input) × (out' ≡ out)

-- The bytes in the writer after an input X, by cases: the whole output of the job, or its first `written` bytes, or
-- none. Memory may only be lacking for the bytes of which `lacks` holds.
abbrev pub WritesAnswer : (List ℕ → Result Answer Refusal → Type 0) → (List ℕ → Type 0) → List ℕ → Option (List ℕ) → Option (List ℕ)
    → Result Done JobFault → Type 0
WritesAnswer answers lacks X old new (Ok done) =
    (answer : Answer) × answers X (Ok answer) × (done ≡ done_of answer.note) × Appends old new answer.text
WritesAnswer answers lacks X old new (Err (Write written)) =
    (answer : Answer) × answers X (Ok answer) × (written < length answer.text) × Appends old new (take written answer.text)
WritesAnswer answers lacks X old new (Err BadLength) = answers X (Err refusals.BadLength) × Keeps old new
WritesAnswer answers lacks X old new (Err Integrity) = answers X (Err refusals.Integrity) × Keeps old new
WritesAnswer answers lacks X old new (Err KeyNotPlain) = answers X (Err refusals.KeyNotPlain) × Keeps old new
WritesAnswer answers lacks X old new (Err Memory) = lacks X × Keeps old new
WritesAnswer answers lacks X old new (Err fault) = ⊥

-- the same, after the input was read or refused
abbrev pub WritesFrom : (List ℕ → Result Answer Refusal → Type 0) → (List ℕ → Type 0) → Result (Vec ℕ Global) JobFault → Option (List ℕ)
    → Option (List ℕ) → Result Done JobFault → Type 0
WritesFrom answers lacks (Ok X) out out' result = WritesAnswer answers lacks X.items out out' result
WritesFrom answers lacks (Err fault) out out' result = (result ≡ Err fault) × (out' ≡ out)

-- The effect of a run over a whole input.
pub record RunsInput (notation : Notation) (answers : List ℕ → Result Answer Refusal → Type 0) (lacks : List ℕ → Type 0)
    (input input' out out' : Option (List ℕ)) (result : Result Done JobFault) : Type 0 where
  pub text : Result (Vec ℕ Global) JobFault
  pub read : ReadsInput notation input input' text
  pub rest : WritesFrom answers lacks text out out' result

-- The effect of a run over lines of at most 4,194,304 bytes. If the rest of the input is known, the answers to its
-- first lines were written, in order.
abbrev pub AnswersLines : RunOptions → (List ℕ → Result Answer Refusal → Type 0) → Option (List ℕ) → Option (List ℕ)
    → Option (List ℕ) → Option (List ℕ) → Option (List (RefusedLine Refusal)) → Option (List (RefusedLine Refusal))
    → Result (Result (RunSummary Refusal) (RunFault Refusal)) JobFault → Type 0
AnswersLines options answers input input' out out' log log' answer = IsOkAnd answer (λ run.
    RunsLines options answers input input' out out' log log' run × IfSome input (λ text. WritesAnswers options answers text out out' run))

-- the answers to the lines of a text, of which line i is the answer to line i
pub record AnswersEachLine (options : RunOptions) (answers : List ℕ → Result Answer Refusal → Type 0) (text : List ℕ)
    (out out' : Option (List ℕ)) (run : Result (RunSummary Refusal) (RunFault Refusal)) : Type 0 where
  pub written : WritesAnswers options answers text out out' run
  pub one_each : AreOneEach (map output_of written.results) (lines_of (written_for written.results))

-- the fault of a run for the fault of its job
abbrev pub job_fault_of : LineFault Refusal → JobFault
job_fault_of (line_faults.Refused refusals.BadLength) = BadLength
job_fault_of (line_faults.Refused refusals.Integrity) = Integrity
job_fault_of (line_faults.Refused refusals.KeyNotPlain) = KeyNotPlain
job_fault_of fault = Memory

-- The bytes that were read from the input denote X, and the bytes that were written are an output for X.
pub record WritesOutput (notation : Notation) (IsOutput : List ℕ → List ℕ → Type 0) (input input' out out' : Option (List ℕ)) : Type 0 where
  pub X : List ℕ
  pub output : List ℕ
  pub read : ReadsFile notation input input' (Ok X)
  pub is_output : IsOutput X output
  pub written : Appends out out' output

abbrev pub IsCheck : What → Type 0
IsCheck (Check iv) = ⊤
IsCheck what = ⊥

-- a rewrap that changes neither the form nor the initial value
abbrev pub KeepsForm : What → Type 0
KeepsForm (Rewrap forms pass_new) = forms ≡ to_itself forms
KeepsForm what = ⊥

-- The effect of a run over a whole input under these block permutations.
abbrev pub RunsUnder : What → Notation → (E F : List ℕ → List ℕ) → (input input' out out' : Option (List ℕ)) → Result Done JobFault → Type 0
RunsUnder what notation E F input input' out out' result =
    RunsInput notation (Answers what notation E F) (MayLack what E F) input input' out out' result

-- The effect of an operation on a whole input: the KEK files are read, and then the input is answered.
abbrev pub RunsOperation : What → Notation → (keks keks' : Keks (Option (List ℕ))) → (input input' out out' : Option (List ℕ))
    → Result Done JobFault → Type 0
RunsOperation what notation keks keks' input input' out out' result = UnderKeks keks keks'
    (λ K L. RunsUnder what notation (cipher K) (cipher L) input input' out out' result)
    (λ fault. IsRefusedBefore fault input input' out out' result)

-- The headline, about the bytes that a call read and wrote. The output is the answer to the bytes X of the input, under
-- AES of the KEK: for a key its one wrapping, for a wrapping its one key, for a check the form of X. An unwrapped key has
-- no other wrapping, and in the other form the input is not a wrapping. So wrapping the key again restores the input. For
-- a rewrap the input was the old wrapping of one key, and the output is the new wrapping of that key, under AES of the new
-- KEK. A kept form is the one form in which the input is a wrapping. With pass_new the input may have been the new
-- wrapping itself.
abbrev pub WritesTheAnswer : What → Notation → (keks keks' : Keks (Option (List ℕ))) → (input input' out out' : Option (List ℕ)) → Type 0
WritesTheAnswer what notation keks keks' input input' out out' = UnderKeks keks keks'
    (λ K L. WritesOutput notation (WritesFor what notation (cipher K) (cipher L)) input input' out out') (λ _. ⊥)

-- The same line by line: the KEK files are read first, and then each line is answered.
abbrev pub RunsOperationLines : What → RunOptions → (keks keks' : Keks (Option (List ℕ))) → (input input' out out' : Option (List ℕ))
    → (log log' : Option (List (RefusedLine Refusal))) → Result (Result (RunSummary Refusal) (RunFault Refusal)) JobFault → Type 0
RunsOperationLines what options keks keks' input input' out out' log log' result = UnderKeks keks keks'
    (λ K L. AnswersLines options (Answers what (line_notation options.notation) (cipher K) (cipher L)) input input' out out' log log' result)
    (λ fault. (log' ≡ log) × IsRefusedBefore fault input input' out out' result)

-- The headline of lines. If the rest of the input is known, the answers to its first lines were written, in order, each
-- under AES of the KEKs that the KEK files denote. Line i of the output is the answer to line i.
abbrev pub WritesTheLines : What → RunOptions → (keks keks' : Keks (Option (List ℕ))) → (input out out' : Option (List ℕ))
    → Result (RunSummary Refusal) (RunFault Refusal) → Type 0
WritesTheLines what options keks keks' input out out' run = UnderKeks keks keks' (λ K L. IfSome input
    (λ text. AnswersEachLine options (Answers what (line_notation options.notation) (cipher K) (cipher L)) text out out' run)) (λ _. ⊥)

-- `same` is true exactly if there is a new KEK, which is the same key as the KEK
abbrev pub TellsSameKek : (keks keks' : Keks (Option (List ℕ))) → Bool → Type 0
TellsSameKek keks keks' same = UnderKeks keks keks' (λ K L. IsTrue same ↔ (IsSome keks.new_kek × (K ≡ L))) (λ _. ⊥)

-- the result without what is known of the KEKs
abbrev pub result_of : {T : Type 0} → Result (Outcome T) JobFault → Result T JobFault
result_of (Ok outcome) = Ok outcome.result
result_of (Err fault) = Err fault

-- a run over lines that ends with status 0: there was a line, none was refused, and a check found a key in each
pub record EndsWell (what : What) (summary : RunSummary Refusal) : Type 0 where
  pub some : summary.lines ≢ 0
  pub none_refused : summary.first_refused ≡ None
  pub all_found : IsCheck what → summary.noted ≡ 0

-- the line denotes the wrapping, in some form, of some key
abbrev pub IsWrappedLine : TextNotation → ℕ → (List ℕ → List ℕ) → List ℕ → Type 0
IsWrappedLine notation iv E line =
    (X : List ℕ) × (line_meaning notation line ≡ Ok X) × ((form : Form) × (key : List ℕ) × IsWrappingWithIv form iv E key X)

-- the text has a line, and each of its lines denotes a wrapping
abbrev pub AreWrappedLines : TextNotation → ℕ → (List ℕ → List ℕ) → List ℕ → Type 0
AreWrappedLines notation iv E text = (lines_of text ≢ []) × AllByRecursion (IsWrappedLine notation iv E) (lines_of text)

-- the output is the answer to the bytes that the line denotes
abbrev pub IsAnsweredLine : TextNotation → What → (E F : List ℕ → List ℕ) → (line output : List ℕ) → Type 0
IsAnsweredLine notation what E F line output =
    (X : List ℕ) × (line_meaning notation line ≡ Ok X) × WritesFor what (line_notation notation) E F X output

-- one output for each line, in order
abbrev pub AreOutputs : (List ℕ → List ℕ → Type 0) → List (List ℕ) → List (List ℕ) → Type 0
AreOutputs Is [] [] = ⊤
AreOutputs Is (line ∷ lines) (output ∷ outputs) = Is line output × AreOutputs Is lines outputs
AreOutputs Is lines outputs = ⊥

-- each line of the text was answered, and the outputs were written in order
pub record AnswersLinesOf (notation : TextNotation) (what : What) (E F : List ℕ → List ℕ) (text : List ℕ) (out out' : Option (List ℕ)) : Type 0 where
  pub some : lines_of text ≢ []
  pub outputs : List (List ℕ)
  pub each : AreOutputs (IsAnsweredLine notation what E F) (lines_of text) outputs
  pub written : Appends out out' (concat outputs)
  pub one_each : AreOneEach outputs (lines_of (concat outputs))

-- a check found a key in each line
abbrev pub FindsKeys : What → TextNotation → (List ℕ → List ℕ) → List ℕ → Type 0
FindsKeys (Check iv) notation E text = AreWrappedLines notation iv E text
FindsKeys what notation E text = ⊤

-- What a run over lines says that ends with status 0: line i of the output is the answer to line i of the input, and there
-- is a line. If a rewrap ends so, line i of the output is the wrapping, under AES of the new KEK, of the key of line i of
-- the input. If a check does, each line denotes a wrapping, in some form, of some key under AES of the KEK.
abbrev pub AnswersAllLines : What → TextNotation → (keks keks' : Keks (Option (List ℕ))) → (input out out' : Option (List ℕ)) → Type 0
AnswersAllLines what notation keks keks' input out out' = UnderKeks keks keks' (λ K L. IfSome input
    (λ text. AnswersLinesOf notation what (cipher K) (cipher L) text out out' × FindsKeys what notation (cipher K) text)) (λ _. ⊥)

-- unless the operation wraps or rewraps, X is a wrapping that it unwraps, of some key
abbrev pub IsWrapped : What → (List ℕ → List ℕ) → List ℕ → Type 0
IsWrapped (Convert (Wrap form)) E X = ⊤
IsWrapped (Convert (Unwrap form)) E X = (key : List ℕ) × IsWrapping form E key X
IsWrapped (Convert (UnwrapAny iv)) E X = (form : Form) × (key : List ℕ) × IsWrappingWithIv form iv E key X
IsWrapped (Check iv) E X = (form : Form) × (key : List ℕ) × IsWrappingWithIv form iv E key X
IsWrapped (Rewrap forms pass_new) E X = ⊤

-- What a run over a whole input says that ends with status 0: the bytes X of the input were unwrapped under AES of the KEK.
abbrev pub AnswersWhole : What → Notation → (keks keks' : Keks (Option (List ℕ))) → (input input' : Option (List ℕ)) → Type 0
AnswersWhole what notation keks keks' input input' = UnderKeks keks keks'
    (λ K L. (X : List ℕ) × ReadsFile notation input input' (Ok X) × IsWrapped what (cipher K) X) (λ _. ⊥)
