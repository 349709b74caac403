-- What a call that writes bytes as a line leaves in the writer, and answers.
use Rattle.std.specs.Prelude.{◌≡◌, ◌≢◌, ℕ, ◌<◌, List, [], ◌∷◌, ◌++◌, All, length, take, Option, Result, Ok, Err, OnOk}
use Rattle.std.specs.Io.KnownBytes.{Appends, Keeps}
use Rattle.key_files.specs.HexText.{hex_line}
use Rattle.key_files.specs.declared.fault.FileFault.{FileFault}
use Rattle.key_files.specs.declared.fault.HexWriteFault.{HexWriteFault}
use Rattle.key_files.specs.declared.fault.HexWriteFault.TheVariants.{Memory, Write}

-- one line: it has one LF, at its end
abbrev pub IsLine : List ℕ → Type 0
IsLine text = (front : List ℕ) × (text ≡ front ++ 10 ∷ []) × All (λ byte. byte ≢ 10) front

-- A law: the text is one line, and a file that denotes these bytes.
abbrev pub PrintsAs : (List ℕ → Result (List ℕ) FileFault) → List ℕ → List ℕ → Type 0
PrintsAs meaning text bytes = IsLine text × (meaning text ≡ Ok bytes)

-- the writer has the whole line, or a counted front of it; none of it at Memory
pub record WritesHex (old new : Option (List ℕ)) (bytes : List ℕ) (answer : Result Unit HexWriteFault) : Type 0 where
  pub whole : OnOk answer (Appends old new (hex_line bytes))
  pub untouched : answer ≡ Err Memory → Keeps old new
  pub front : (written : ℕ) → answer ≡ Err (Write written) → Appends old new (take written (hex_line bytes))
  pub short : (written : ℕ) → answer ≡ Err (Write written) → written < length (hex_line bytes)
