-- The effect of a run on the files that its command names, and its exit status. What a file holds, and what can be read of it, is
-- said by the ghost members of `Disk`, here Reads, Holds (before the run), Holds' (after it) and others. Bytes are known or not.
use Rattle.std.specs.Prelude.{◌≡◌, ◌≢◌, ◌↔◌, ◌⊎◌, ℕ, List, Option, Some, None, Result, Ok, Err, ⊤}
use Rattle.std.specs.Borrow.{Bor}
use Rattle.key_lines.specs.declared.fault.RefusedLine.{RefusedLine}
use Rattle.key_lines.specs.declared.fault.RunFault.{RunFault}
use Rattle.key_lines.specs.declared.fault.RunFault.TheVariants.{AtLine, Write}
use Rattle.key_lines.specs.declared.run.RunOptions.{RunOptions}
use Rattle.key_lines.specs.declared.summary.RunSummary.{RunSummary}
use Rattle.key_wrap_core.specs.declared.faults.Refusal.{Refusal}
use Rattle.keywrap_cli.specs.Faults.{program_status}
use Rattle.keywrap_cli.specs.Files.{input_notation}
use Rattle.keywrap_cli.specs.Operation.{AnswersAllLines, AnswersWhole, EndsWell, IsCheck, RunsOperation, RunsOperationLines, WritesTheAnswer}
use Rattle.keywrap_cli.specs.declared.fault.ProgramFault.{ProgramFault}
use Rattle.keywrap_cli.specs.declared.fault.ProgramFault.TheVariants as program
use Rattle.keywrap_cli.specs.declared.files.Notation.{Notation}
use Rattle.keywrap_cli.specs.declared.files.Notation.TheVariants.{Raw}
use Rattle.keywrap_cli.specs.declared.kek_file.Keks.{Keks}
use Rattle.keywrap_cli.specs.declared.outcome.Done.{Done}
use Rattle.keywrap_cli.specs.declared.outcome.Done.TheVariants.{Written, Neither}
use Rattle.keywrap_cli.specs.declared.outcome.JobFault.{JobFault}
use Rattle.keywrap_cli.specs.declared.what.How.{How}
use Rattle.keywrap_cli.specs.declared.what.How.TheVariants.{Whole, Lines}
use Rattle.keywrap_cli.specs.declared.what.What.{What}
use Rattle.keywrap_io.specs.Places.{IsEmpty, IsOldOrNew, KeepsFiles, place}
use Rattle.keywrap_cli.specs.declared.outcome.Outcome.{Outcome}
use Rattle.keywrap_io.specs.declared.file_role.FileRole.{FileRole}
use Rattle.keywrap_io.specs.declared.file_role.FileRole.TheVariants as roles
use Rattle.keywrap_io.specs.declared.streams.LostStream.{LostStream}
use Rattle.keywrap_io.specs.declared.streams.LostStream.TheVariants as lost
use Rattle.keywrap_io.specs.declared.streams.StreamKind.{StreamKind}
use Rattle.keywrap_io.specs.declared.streams.StreamKind.TheVariants.{Terminal}
use Rattle.keywrap.specs.declared.command.Run.{Run}

-- the name of a file of the run, if it has one
abbrev pub name_of : Run → FileRole → Option (Bor (List ℕ))
name_of run roles.Kek = Some run.operation.keks.kek
name_of run roles.NewKek = run.operation.keks.new_kek
name_of run roles.Input = run.input
name_of run roles.Output = run.output

-- the fault of a file that cannot be opened
abbrev pub open_fault_of : FileRole → ProgramFault
open_fault_of roles.Kek = program.KekOpen
open_fault_of roles.NewKek = program.NewKekOpen
open_fault_of roles.Input = program.InputOpen
open_fault_of roles.Output = program.OutputOpen

-- the status of a run, or its fault
abbrev pub ending_of : {Counts : Type 0} → Result (Outcome (ℕ × Counts)) ProgramFault → Result ℕ ProgramFault
ending_of (Ok outcome) = Ok outcome.result.0
ending_of (Err fault) = Err fault

-- the status of a run, or the fault for which it was refused
abbrev pub fault_of : {Refused : Type 0} → (Refused → ProgramFault) → Result ℕ Refused → Result ℕ ProgramFault
fault_of fault (Ok status) = Ok status
fault_of fault (Err refused) = Err (fault refused)

-- the new KEK's file, if the run has one, can be read so
abbrev pub ReadsNew : (Option (List ℕ) → Option (List ℕ) → Type 0) → Option (Bor (List ℕ)) → Option (Option (List ℕ)) → Type 0
ReadsNew Reads (Some name) (Some file) = Reads (Some name.now) file
ReadsNew Reads None None = ⊤
ReadsNew Reads name file = ⊥

-- the files of the run that hold its KEKs: each can be read so, under its own name
pub record AreKeks (Reads : Option (List ℕ) → Option (List ℕ) → Type 0) (run : Run) (keks : Keks (Option (List ℕ))) : Type 0 where
  pub notation : keks.notation ≡ run.operation.keks.notation
  pub kek : Reads (Some run.operation.keks.kek.now) keks.kek
  pub new_kek : ReadsNew Reads run.operation.keks.new_kek keks.new_kek

-- the output as the run begins to write: a new file, or standard output
abbrev pub Begins : (Holds : Option (List ℕ) → Option (List ℕ) → Type 0) → Option (Bor (List ℕ)) → Option (List ℕ) → Type 0
Begins Holds (Some name) out = IsEmpty out
Begins Holds None out = Holds None out

-- the result of a run over a whole input: its status, or its fault
abbrev pub whole_ending : Result Done JobFault → Result ℕ ProgramFault
whole_ending (Ok Written) = Ok 0
whole_ending (Ok Neither) = Ok 5
whole_ending (Err fault) = Err (program.Job fault)

-- the summary of a run over lines, unless there was no line, or the fault that ended it
abbrev pub IsSummary : Result (RunSummary Refusal) (RunFault Refusal) → Result (RunSummary Refusal) ProgramFault → Type 0
IsSummary run (Ok summary) = (run ≡ Ok summary) × (summary.lines ≢ 0)
IsSummary (Ok summary) (Err fault) = (summary.lines ≡ 0) × (fault ≡ program.NoLines)
IsSummary (Err (AtLine line)) (Err fault) = fault ≡ program.Line line
IsSummary (Err (Write answered unsent)) (Err fault) = fault ≡ program.Unsent answered unsent

-- The result of a run over lines: its status, which is 0 only if it ends well, or its fault.
abbrev pub IsLinesEnding : What → Result (Result (RunSummary Refusal) (RunFault Refusal)) JobFault → Result ℕ ProgramFault → Type 0
IsLinesEnding what (Ok run) (Ok status) = (summary : RunSummary Refusal) × IsSummary run (Ok summary) × ((status ≡ 0) ↔ EndsWell what summary)
IsLinesEnding what (Ok run) (Err fault) = IsSummary run (Err fault)
IsLinesEnding what (Err fault) ending = ending ≡ Err (program.Job fault)

-- An operation on a whole input ends so, under these KEK files.
pub record EndsWhole (what : What) (notation : Notation) (keks : Keks (Option (List ℕ))) (input out out' : Option (List ℕ))
    (ending : Result ℕ ProgramFault) : Type 0 where
  pub keks' : Keks (Option (List ℕ))
  pub input' : Option (List ℕ)
  pub result : Result Done JobFault
  pub runs : RunsOperation what notation keks keks' input input' out out' result
  pub is_ending : ending ≡ whole_ending result

-- an operation on lines has this result
pub record RunsOnLines (what : What) (options : RunOptions) (keks : Keks (Option (List ℕ))) (input out out' : Option (List ℕ))
    (result : Result (Result (RunSummary Refusal) (RunFault Refusal)) JobFault) : Type 0 where
  pub keks' : Keks (Option (List ℕ))
  pub input' : Option (List ℕ)
  pub log : Option (List (RefusedLine Refusal))
  pub log' : Option (List (RefusedLine Refusal))
  pub runs : RunsOperationLines what options keks keks' input input' out out' log log' result

-- an operation on lines ends so
pub record EndsLines (what : What) (options : RunOptions) (keks : Keks (Option (List ℕ))) (input out out' : Option (List ℕ))
    (ending : Result ℕ ProgramFault) : Type 0 where
  pub result : Result (Result (RunSummary Refusal) (RunFault Refusal)) JobFault
  pub runs : RunsOnLines what options keks input out out' result
  pub is_ending : IsLinesEnding what result ending

-- the result of an operation on lines, or no memory for its buffer: then nothing was read or written
abbrev pub RunsBuffered : What → RunOptions → Keks (Option (List ℕ)) → (input out out' : Option (List ℕ))
    → Result (Outcome (Result (RunSummary Refusal) (RunFault Refusal))) ProgramFault → Type 0
RunsBuffered what options keks input out out' (Ok outcome) = RunsOnLines what options keks input out out' (Ok outcome.result)
RunsBuffered what options keks input out out' (Err (program.Job fault)) = RunsOnLines what options keks input out out' (Err fault)
RunsBuffered what options keks input out out' (Err program.Memory) = out' ≡ out
RunsBuffered what options keks input out out' (Err fault) = ⊥

-- The same for either kind of input. Over lines, memory may be lacking before anything is read.
abbrev pub EndsRun : What → How → Keks (Option (List ℕ)) → (input out out' : Option (List ℕ)) → Result ℕ ProgramFault → Type 0
EndsRun what (Whole notation) keks input out out' ending = EndsWhole what notation keks input out out' ending
EndsRun what (Lines options) keks input out out' ending =
    EndsLines what options keks input out out' ending ⊎ ((ending ≡ Err program.Memory) × (out' ≡ out))

-- The output is the answer to the input, or line i of it to line i of the input; see `WritesTheAnswer` and `AnswersAllLines`.
abbrev pub AnswersRun : What → How → Keks (Option (List ℕ)) → (input out out' : Option (List ℕ)) → Type 0
AnswersRun what (Whole notation) keks input out out' = (keks' : Keks (Option (List ℕ))) × (input' : Option (List ℕ))
    × WritesTheAnswer what notation keks keks' input input' out out' × AnswersWhole what notation keks keks' input input'
AnswersRun what (Lines options) keks input out out' =
    (keks' : Keks (Option (List ℕ))) × AnswersAllLines what options.notation keks keks' input out out'

-- the files that the run reads: its KEK files and its input
pub record AreOpened (Reads : Option (List ℕ) → Option (List ℕ) → Type 0) (run : Run) (keks : Keks (Option (List ℕ))) (input : Option (List ℕ))
    : Type 0 where
  pub are_keks : AreKeks Reads run keks
  pub reads : Reads (place run.input) input

-- The run was done with this status: its files were opened, the operation was done on them, and the file of its output, or standard
-- output, holds what it wrote. With status 0 this is the answer.
pub record IsDone (Reads Holds Holds' : Option (List ℕ) → Option (List ℕ) → Type 0) (run : Run) (status : ℕ) : Type 0 where
  pub keks : Keks (Option (List ℕ))
  pub input : Option (List ℕ)
  pub opened : AreOpened Reads run keks input
  pub out : Option (List ℕ)
  pub out' : Option (List ℕ)
  pub begins : Begins Holds run.output out
  pub ends : EndsRun run.operation.what run.how keks input out out' (Ok status)
  pub answers : status ≡ 0 → AnswersRun run.operation.what run.how keks input out out'
  pub stored : Holds' (place run.output) out'

-- The operation was refused, after its files were opened.
pub record IsRefusedOperation (Reads Holds : Option (List ℕ) → Option (List ℕ) → Type 0) (run : Run) (fault : ProgramFault) : Type 0 where
  pub keks : Keks (Option (List ℕ))
  pub input : Option (List ℕ)
  pub opened : AreOpened Reads run keks input
  pub out : Option (List ℕ)
  pub out' : Option (List ℕ)
  pub begins : Begins Holds run.output out
  pub ends : EndsRun run.operation.what run.how keks input out out' (Err fault)

-- The operation was done, but its output did not take its name, or was not flushed: the file holds what it held, or the whole output.
pub record IsUnsaved (Reads Holds Holds' : Option (List ℕ) → Option (List ℕ) → Type 0) (run : Run) : Type 0 where
  pub keks : Keks (Option (List ℕ))
  pub input : Option (List ℕ)
  pub opened : AreOpened Reads run keks input
  pub out : Option (List ℕ)
  pub out' : Option (List ℕ)
  pub begins : Begins Holds run.output out
  pub status : ℕ
  pub ends : EndsRun run.operation.what run.how keks input out out' (Ok status)
  pub stored : IsOldOrNew Holds Holds' (place run.output) out'

-- what became of the output after an operation with this ending, by the result of the run
abbrev pub IsSaved : (Holds Holds' : Option (List ℕ) → Option (List ℕ) → Type 0) → Option (List ℕ) → Option (List ℕ)
    → (ending result : Result ℕ ProgramFault) → Type 0
IsSaved Holds Holds' at out (Err fault) result = (result ≡ Err fault) × KeepsFiles Holds Holds'
IsSaved Holds Holds' at out (Ok status) (Ok result) = (result ≡ status) × Holds' at out
IsSaved Holds Holds' at out (Ok status) (Err fault) = (fault ≡ program.Flush) × IsOldOrNew Holds Holds' at out

-- What is known as the output is committed or discarded: the operation was refused, and each file is as it was; or it was done with
-- this status, and the place of its output holds all that it wrote; or that failed.
pub record Commits (Holds Holds' : Option (List ℕ) → Option (List ℕ) → Type 0) (what : What) (how : How) (at : Option (List ℕ))
    (keks : Keks (Option (List ℕ))) (input out : Option (List ℕ)) (result : Result ℕ ProgramFault) : Type 0 where
  pub out' : Option (List ℕ)
  pub ending : Result ℕ ProgramFault
  pub ends : EndsRun what how keks input out out' ending
  pub answers : ending ≡ Ok 0 → AnswersRun what how keks input out out'
  pub saved : IsSaved Holds Holds' at out' ending result

-- the name of the output's file, for which no new file can be made
abbrev pub CannotCreateOutput : (List ℕ → Type 0) → Option (Bor (List ℕ)) → Type 0
CannotCreateOutput CannotCreate (Some name) = CannotCreate name.now
CannotCreateOutput CannotCreate None = ⊥

-- raw bytes would go to a terminal
pub record WritesRawToTerminal (run : Run) (stdout : StreamKind) : Type 0 where
  pub no_file : run.output ≡ None
  pub is_terminal : stdout ≡ Terminal
  pub is_raw : (¬ IsCheck run.operation.what) × (input_notation run.how ≡ Raw)

-- Why a run is refused, in this order: raw bytes would go to a terminal; the place of a closed stream cannot be taken; the KEK file,
-- the new KEK file, the input or the output cannot be opened; the operation is refused; its output is not saved.
pub data IsRefused (Reads Holds Holds' : Option (List ℕ) → Option (List ℕ) → Type 0) (CannotRead : Option (List ℕ) → Type 0)
    (CannotCreate : List ℕ → Type 0) (CannotOccupy : LostStream → Type 0) (run : Run) (stdout : StreamKind) : ProgramFault → Type 0 where
  raw_to_terminal : WritesRawToTerminal run stdout
      → IsRefused Reads Holds Holds' CannotRead CannotCreate CannotOccupy run stdout program.RawToTerminal
  input_lost : CannotOccupy lost.Input → IsRefused Reads Holds Holds' CannotRead CannotCreate CannotOccupy run stdout program.InputOpen
  output_lost : CannotOccupy lost.Output → IsRefused Reads Holds Holds' CannotRead CannotCreate CannotOccupy run stdout program.OutputOpen
  kek_open : CannotRead (Some run.operation.keks.kek.now) → IsRefused Reads Holds Holds' CannotRead CannotCreate CannotOccupy run stdout program.KekOpen
  new_kek_open : (kek : Option (List ℕ)) → Reads (Some run.operation.keks.kek.now) kek → CannotRead (place run.operation.keks.new_kek)
      → IsRefused Reads Holds Holds' CannotRead CannotCreate CannotOccupy run stdout program.NewKekOpen
  input_open : (keks : Keks (Option (List ℕ))) → AreKeks Reads run keks → CannotRead (place run.input)
      → IsRefused Reads Holds Holds' CannotRead CannotCreate CannotOccupy run stdout program.InputOpen
  output_open : (keks : Keks (Option (List ℕ))) (input : Option (List ℕ)) → AreOpened Reads run keks input
      → CannotCreateOutput CannotCreate run.output → IsRefused Reads Holds Holds' CannotRead CannotCreate CannotOccupy run stdout program.OutputOpen
  output_memory : (keks : Keks (Option (List ℕ))) (input : Option (List ℕ)) → AreOpened Reads run keks input
      → CannotCreateOutput CannotCreate run.output → IsRefused Reads Holds Holds' CannotRead CannotCreate CannotOccupy run stdout program.Memory
  operation : (fault : ProgramFault) → IsRefusedOperation Reads Holds run fault → IsRefused Reads Holds Holds' CannotRead CannotCreate CannotOccupy run stdout fault
  unsaved : IsUnsaved Reads Holds Holds' run → IsRefused Reads Holds Holds' CannotRead CannotCreate CannotOccupy run stdout program.Flush

-- How a run ends: done with its status, or refused with the status of a fault, which is not 0. A refused run leaves each file as it
-- was, unless only the last step failed.
abbrev pub Ends : (Holds Holds' : Option (List ℕ) → Option (List ℕ) → Type 0) → (ℕ → Type 0) → (ProgramFault → Type 0) → ℕ → Type 0
Ends Holds Holds' Done Refused status = Done status ⊎ ((fault : ProgramFault) × Refused fault × (status ≡ program_status fault) × (status ≢ 0)
    × (fault ≢ program.Flush → KeepsFiles Holds Holds'))
