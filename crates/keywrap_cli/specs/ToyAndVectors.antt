-- The results of drills, and what a command without files leaves in its writer if it ends with a fault.
use Rattle.std.specs.Prelude.{◌≡◌, ℕ, List, length, Result, Ok, Err, Vec, ◌<◌, Bool, true, false, take, Option}
use Rattle.std.specs.declared.alloc.Global.{Global}
use Rattle.std.specs.Io.KnownBytes.{Appends, Keeps}
use Rattle.block_pair.specs.Halves.{swapped_halves}
use Rattle.key_files.specs.HexText.{hex_line}
use Rattle.key_files.specs.FileMeaning.{file_meaning, hex_meaning}
use Rattle.key_files.specs.declared.fault.FileFault.{FileFault}
use Rattle.key_files.specs.declared.fault.FileFault.TheVariants as files
use Rattle.key_wrap_core.specs.Forms.{by_default}
use Rattle.key_wrap_core.specs.declared.forms.Form.{Form}
use Rattle.key_wrap_core.specs.declared.faults.Refusal.TheVariants as refusals
use Rattle.test_vectors.specs.Published.{published_vectors}
use Rattle.keywrap_cli.specs.declared.job.Direction.{Direction}
use Rattle.keywrap_cli.specs.declared.drilling.DrillFault.{DrillFault}
use Rattle.keywrap_cli.specs.declared.drilling.DrillFault.TheVariants.{TooLong, BadDigit, OddDigits, BadLength, Integrity, Memory}
use Rattle.keywrap_cli.specs.JobAnswers.{IsAnswer, RefusesConversion, conversion}
use Rattle.keywrap_cli.specs.VectorReport.{Gave, IsReport}
use Rattle.keywrap_cli.specs.declared.fault.ProgramFault.{ProgramFault}
use Rattle.keywrap_cli.specs.declared.fault.ProgramFault.TheVariants as program

-- what the text of a drill denotes, as a hex file of at most 4,194,304 bytes
abbrev pub drill_meaning : List ℕ → Result (List ℕ) FileFault
drill_meaning text = file_meaning hex_meaning 4194304 text

-- the bytes that the text denotes, by cases; Memory is only possible instead of these bytes
abbrev pub TextAnswer : List ℕ → Result (Vec ℕ Global) DrillFault → Type 0
TextAnswer text (Ok X) = drill_meaning text ≡ Ok X.items
TextAnswer text (Err TooLong) = drill_meaning text ≡ Err files.TooLong
TextAnswer text (Err (BadDigit at)) = drill_meaning text ≡ Err (files.BadDigit at)
TextAnswer text (Err OddDigits) = drill_meaning text ≡ Err files.OddDigits
TextAnswer text (Err BadLength) = ⊥
TextAnswer text (Err Integrity) = ⊥
TextAnswer text (Err Memory) = (X : List ℕ) × (drill_meaning text ≡ Ok X)

-- a drill's fault for a text that denotes no bytes
abbrev pub text_fault_of : FileFault → DrillFault
text_fault_of (files.BadDigit at) = BadDigit at
text_fault_of files.OddDigits = OddDigits
text_fault_of files.Read = Memory
text_fault_of files.TooLong = Memory
text_fault_of (files.BadCharacter at) = Memory
text_fault_of (files.BehindPadding at) = Memory
text_fault_of files.BadBase64Length = Memory
text_fault_of files.TrailingBits = Memory
text_fault_of files.Memory = Memory

-- The result with the toy cipher and the default initial value, by cases. Memory is only possible if the text denotes
-- bytes.
abbrev pub DrillAnswer : Direction → Form → List ℕ → Result (Vec ℕ Global) DrillFault → Type 0
DrillAnswer direction form text (Ok Y) =
    (X : List ℕ) × (drill_meaning text ≡ Ok X) × IsAnswer (conversion direction (by_default form)) swapped_halves X Y.items
DrillAnswer direction form text (Err BadLength) =
    (X : List ℕ) × (drill_meaning text ≡ Ok X) × RefusesConversion (conversion direction (by_default form)) swapped_halves X refusals.BadLength
DrillAnswer direction form text (Err Integrity) =
    (X : List ℕ) × (drill_meaning text ≡ Ok X) × RefusesConversion (conversion direction (by_default form)) swapped_halves X refusals.Integrity
DrillAnswer direction form text (Err fault) = TextAnswer text (Err fault)

-- the line of a drill: the hex digits of its result
abbrev pub IsDrillLine : Direction → Form → (text line : List ℕ) → Type 0
IsDrillLine direction form text line = (Y : Vec ℕ Global) × DrillAnswer direction form text (Ok Y) × (line ≡ hex_line Y.items)

-- the text was written up to a counted byte, or whole and then not flushed; no other fault has this cause
abbrev pub IsCutOff : List ℕ → (old new : Option (List ℕ)) → ProgramFault → Type 0
IsCutOff text old new (program.Write written) = (written < length text) × Appends old new (take written text)
IsCutOff text old new program.Flush = Appends old new text
IsCutOff text old new fault = ⊥

-- The cause of a drill's fault. Only a drill with a result fails for lack of memory for its line, or in the writer.
abbrev pub IsDrillFault : Direction → Form → List ℕ → (old new : Option (List ℕ)) → ProgramFault → Type 0
IsDrillFault direction form text old new (program.Drill fault) = DrillAnswer direction form text (Err fault) × Keeps old new
IsDrillFault direction form text old new program.Memory = ((line : List ℕ) × IsDrillLine direction form text line) × Keeps old new
IsDrillFault direction form text old new fault = (line : List ℕ) × IsDrillLine direction form text line × IsCutOff line old new fault

-- the exit status of `vectors`
abbrev pub vectors_status : Bool → ℕ
vectors_status true = 0
vectors_status false = 5

-- the writer has the lines, and the status is 0 exactly if each has `ok`
abbrev pub WritesReport : Gave → (old new : Option (List ℕ)) → ℕ → Type 0
WritesReport gave old new status = (text : List ℕ) × (all_ok : Bool) × IsReport gave published_vectors text all_ok
    × (status ≡ vectors_status all_ok) × Appends old new text

-- the cause of a fault of `vectors`
abbrev pub IsVectorsFault : Gave → (old new : Option (List ℕ)) → ProgramFault → Type 0
IsVectorsFault gave old new program.Memory = Keeps old new
IsVectorsFault gave old new fault = (text : List ℕ) × (all_ok : Bool) × IsReport gave published_vectors text all_ok × IsCutOff text old new fault
