-- Which bytes an input has left, and which an output holds, if the file and the standard stream tell theirs.
use Rattle.std.specs.Prelude.{ℕ, List, Option}
use Rattle.keywrap_io.specs.declared.streams.InputSource.{InputSource}
use Rattle.keywrap_io.specs.declared.streams.InputSource.TheVariants as source
use Rattle.keywrap_io.specs.declared.output.Output.{Output}
use Rattle.keywrap_io.specs.declared.output.Output.TheVariants as output

-- an input has left what its file or standard input has left
abbrev pub source_remaining : {I F : Type 0} → (I → Option (List ℕ)) → (F → Option (List ℕ)) → InputSource I F → Option (List ℕ)
source_remaining stdin file (source.File opened) = file opened
source_remaining stdin file (source.Stdin stream) = stdin stream

-- an output holds what its file or standard output holds
abbrev pub output_contents : {W F : Type 0} → (W → Option (List ℕ)) → (F → Option (List ℕ)) → Output W F → Option (List ℕ)
output_contents stdout file (output.File opened) = file opened.file
output_contents stdout file (output.Stdout stream) = stdout stream
