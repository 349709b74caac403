-- The exit status of each fault, and the faults of the program for those of its calls. A status is a number here too, so
-- that a changed constant of statuses.rt is refused.
use Rattle.std.specs.Prelude.{ℕ}
use Rattle.key_files.specs.declared.fault.FileFault.TheVariants as files
use Rattle.key_lines.specs.declared.fault.LineFault.{LineFault}
use Rattle.key_lines.specs.declared.fault.LineFault.TheVariants.{Input, Refused, Memory, TooManyLines}
use Rattle.key_wrap_core.specs.declared.faults.Refusal.{Refusal}
use Rattle.key_wrap_core.specs.declared.faults.Refusal.TheVariants.{BadLength, Integrity, KeyNotPlain}
use Rattle.key_files.specs.declared.fault.HexWriteFault.{HexWriteFault}
use Rattle.key_files.specs.declared.fault.HexWriteFault.TheVariants as hex
use Rattle.keywrap_cli.specs.declared.drilling.DrillFault.{DrillFault}
use Rattle.keywrap_cli.specs.declared.drilling.DrillFault.TheVariants as drills
use Rattle.keywrap_cli.specs.declared.fault.ProgramFault.{ProgramFault}
use Rattle.keywrap_cli.specs.declared.fault.ProgramFault.TheVariants as program
use Rattle.keywrap_cli.specs.declared.outcome.JobFault.{JobFault}
use Rattle.keywrap_cli.specs.declared.outcome.JobFault.TheVariants as jobs
use Rattle.keywrap_cli.specs.declared.vector_report.VectorsFault.{VectorsFault}
use Rattle.keywrap_cli.specs.declared.vector_report.VectorsFault.TheVariants as vectors

abbrev pub job_status : JobFault → ℕ
job_status (jobs.KekFile fault) = 6
job_status jobs.KekLength = 3
job_status (jobs.NewKekFile fault) = 6
job_status jobs.NewKekLength = 3
job_status (jobs.InputFile fault) = 6
job_status jobs.BadLength = 4
job_status jobs.Integrity = 5
job_status jobs.KeyNotPlain = 4
job_status (jobs.Write written) = 6
job_status jobs.Memory = 7

abbrev pub line_status : LineFault Refusal → ℕ
line_status (Input files.Read) = 6
line_status (Input files.TooLong) = 6
line_status (Input (files.BadDigit at)) = 6
line_status (Input files.OddDigits) = 6
line_status (Input (files.BadCharacter at)) = 6
line_status (Input (files.BehindPadding at)) = 6
line_status (Input files.BadBase64Length) = 6
line_status (Input files.TrailingBits) = 6
line_status (Input files.Memory) = 7
line_status Memory = 7
line_status TooManyLines = 6
line_status (Refused BadLength) = 4
line_status (Refused Integrity) = 5
line_status (Refused KeyNotPlain) = 4

abbrev pub drill_status : DrillFault → ℕ
drill_status drills.TooLong = 6
drill_status (drills.BadDigit at) = 6
drill_status drills.OddDigits = 6
drill_status drills.BadLength = 4
drill_status drills.Integrity = 5
drill_status drills.Memory = 7

abbrev pub program_status : ProgramFault → ℕ
program_status (program.Iv fault) = 2
program_status (program.NewIv fault) = 2
program_status program.KekOpen = 6
program_status program.NewKekOpen = 6
program_status program.InputOpen = 6
program_status program.OutputOpen = 6
program_status program.RawToTerminal = 2
program_status (program.Job fault) = job_status fault
program_status (program.Line line) = line_status line.fault
program_status program.NoLines = 4
program_status (program.Drill fault) = drill_status fault
program_status (program.Write written) = 6
program_status (program.Unsent answered unsent) = 6
program_status program.Flush = 6
program_status program.Memory = 7

-- the faults of the program for the faults of its calls
abbrev pub vectors_fault_of : VectorsFault → ProgramFault
vectors_fault_of vectors.Memory = program.Memory
vectors_fault_of (vectors.Write written) = program.Write written

abbrev pub hex_fault_of : HexWriteFault → ProgramFault
hex_fault_of hex.Memory = program.Memory
hex_fault_of (hex.Write written) = program.Write written
