-- How the program ends: the exit status of a command, or of a stop before a command, and what is written to standard output.
use Rattle.std.specs.Prelude.{◌≡◌, ◌≢◌, ◌⊎◌, ℕ, List, Option, string_bytes}
use Rattle.std.specs.Io.KnownBytes.{Appends, Keeps}
use Rattle.key_wrap_core.specs.declared.forms.Form.{Form}
use Rattle.keywrap_args.specs.declared.parser.ParseStop.TheVariants as parse
use Rattle.keywrap_cli.specs.Faults.{program_status}
use Rattle.keywrap_cli.specs.ToyAndVectors.{IsCutOff, IsDrillFault, IsDrillLine, IsVectorsFault, WritesReport}
use Rattle.keywrap_cli.specs.VectorReport.{LibraryGives}
use Rattle.keywrap_cli.specs.declared.fault.ProgramFault.{ProgramFault}
use Rattle.keywrap_cli.specs.declared.job.Direction.{Direction}
use Rattle.keywrap_io.specs.declared.streams.LostStream.{LostStream}
use Rattle.keywrap_io.specs.declared.streams.StreamKind.{StreamKind}
use Rattle.keywrap.specs.Session.{Ends, IsDone, IsRefused}
use Rattle.keywrap.specs.declared.cli.CommandStop.{CommandStop}
use Rattle.keywrap.specs.declared.cli.CommandStop.TheVariants as stops
use Rattle.keywrap.specs.declared.command.Command.{Command}
use Rattle.keywrap.specs.declared.command.Command.TheVariants.{Run, Drill, Vectors}

-- The status is that of a fault, which is not 0. The fault has this cause.
abbrev pub EndsByFault : (ProgramFault → Type 0) → ℕ → Type 0
EndsByFault Cause status = (fault : ProgramFault) × Cause fault × (status ≡ program_status fault) × (status ≢ 0)

-- standard output has the whole help, or the help is cut off
abbrev pub EndsHelp : List ℕ → (out out' : Option (List ℕ)) → ℕ → Type 0
EndsHelp text out out' status = ((status ≡ 0) × Appends out out' text) ⊎ EndsByFault (λ fault. IsCutOff text out out' fault) status

-- How the program ends if no command is run. Only the help is written to standard output, and only the help ends with status 0.
abbrev pub EndsStop : CommandStop → (out out' : Option (List ℕ)) → ℕ → Type 0
EndsStop (stops.Args (parse.Help text)) out out' status = EndsHelp (string_bytes text) out out' status
EndsStop (stops.Args (parse.Usage text)) out out' status = (status ≡ 2) × Keeps out out'
EndsStop (stops.Args parse.Memory) out out' status = (status ≡ 7) × Keeps out out'
EndsStop (stops.Fault fault) out out' status = (status ≡ program_status fault) × (status ≢ 0) × Keeps out out'

-- standard output has the line of the drill, or the drill has a fault
abbrev pub EndsDrill : Direction → Form → (hex : List ℕ) → (out out' : Option (List ℕ)) → ℕ → Type 0
EndsDrill direction form hex out out' status =
    ((status ≡ 0) × ((line : List ℕ) × IsDrillLine direction form hex line × Appends out out' line))
    ⊎ EndsByFault (λ fault. IsDrillFault direction form hex out out' fault) status

-- standard output has a line for each vector, and the status is 0 exactly if each line has `ok`; or the lines are cut off
abbrev pub EndsVectors : (out out' : Option (List ℕ)) → ℕ → Type 0
EndsVectors out out' status =
    WritesReport LibraryGives out out' status ⊎ EndsByFault (λ fault. IsVectorsFault LibraryGives out out' fault) status

-- How a command ends. `out` is standard output for a command without files.
abbrev pub EndsCommand : (Reads Holds Holds' : Option (List ℕ) → Option (List ℕ) → Type 0) → (CannotRead : Option (List ℕ) → Type 0)
    → (CannotCreate : List ℕ → Type 0) → (CannotOccupy : LostStream → Type 0) → Command → StreamKind → (out out' : Option (List ℕ)) → ℕ → Type 0
EndsCommand Reads Holds Holds' CannotRead CannotCreate CannotOccupy (Run run) stdout out out' status = Ends Holds Holds' (λ done. IsDone Reads Holds Holds' run done)
    (λ fault. IsRefused Reads Holds Holds' CannotRead CannotCreate CannotOccupy run stdout fault) status
EndsCommand Reads Holds Holds' CannotRead CannotCreate CannotOccupy (Drill form direction hex) stdout out out' status = EndsDrill direction form hex.now out out' status
EndsCommand Reads Holds Holds' CannotRead CannotCreate CannotOccupy Vectors stdout out out' status = EndsVectors out out' status
