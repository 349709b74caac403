-- What a call that reads a line takes from its reader, and answers.
use Rattle.std.specs.Prelude.{◌≡◌, ◌≢◌, ℕ, ◌+◌, ◌<◌, ◌≤◌, ◌⊎◌, List, [], ◌∷◌, ◌++◌, length, All, Option, Result, Ok, Err, IfSome}
use Rattle.std.specs.Io.KnownBytes.{Consumes}
use Rattle.key_files.specs.declared.fault.FileFault.{FileFault}
use Rattle.key_files.specs.declared.fault.FileFault.TheVariants.{Read, TooLong, Memory}
use Rattle.key_lines.specs.Lines.{lines_of, EndsWithLf}
use Rattle.key_lines.specs.declared.line.Line.{Line}
use Rattle.key_lines.specs.declared.line.Line.TheVariants as lines
use Rattle.key_lines.specs.declared.line.Part.{Part}
use Rattle.key_lines.specs.declared.line.Part.TheVariants.{More, Ended, Missing}

-- no byte is LF
abbrev pub HasNoLf : List ℕ → Type 0
HasNoLf text = All (λ byte. byte ≢ 10) text

-- if the rest of the reader's input is known, it was exactly these bytes
abbrev pub IsAllOf : List ℕ → Option (List ℕ) → Type 0
IsAllOf taken old = IfSome old (λ xs. xs ≡ taken)

-- These bytes, a line with what ends it, were taken whole: up to an LF, or to the end of the reader.
pub record TakesLine (old new : Option (List ℕ)) (line : List ℕ) : Type 0 where
  pub taken : List ℕ
  pub stands_after : Consumes old new taken
  pub one_line : lines_of taken ≡ line ∷ []
  pub whole : EndsWithLf taken ⊎ IsAllOf taken old

-- some bytes of a line were taken, and no LF
pub record TakesPart (old new : Option (List ℕ)) (part : List ℕ) : Type 0 where
  pub stands_after : Consumes old new part
  pub inside : HasNoLf part

-- What the call that reads a line of at most `limit` bytes answers, and leaves in its buffer: the line without its LF.
abbrev pub ReadsLine : ℕ → Option (List ℕ) → Option (List ℕ) → List ℕ → Result Line FileFault → Type 0
ReadsLine limit old new line (Ok lines.Ended) = (t : TakesLine old new line) × EndsWithLf t.taken × (length line ≤ limit)
ReadsLine limit old new line (Ok lines.Last) = (t : TakesLine old new line) × IsAllOf t.taken old × (length line ≤ limit)
ReadsLine limit old new line (Ok lines.Missing) = Consumes old new [] × IsAllOf [] old
ReadsLine limit old new line (Err TooLong) = TakesPart old new line × (length line ≡ limit + 1)
ReadsLine limit old new line (Err Read) = TakesPart old new line × (length line ≤ limit)
ReadsLine limit old new line (Err Memory) = TakesPart old new line × (length line ≤ limit)
ReadsLine limit old new line (Err fault) = ⊥

-- the call that takes the part of a line that a reader shows: the buffer held `before`, and holds `after`
abbrev pub MovesPart : ℕ → Option (List ℕ) → Option (List ℕ) → List ℕ → List ℕ → Result Part FileFault → Type 0
MovesPart limit old new before after (Ok Ended) =
    (part : List ℕ) × HasNoLf part × Consumes old new (part ++ 10 ∷ []) × (after ≡ before ++ part) × (length after ≤ limit)
MovesPart limit old new before after (Ok More) =
    (part : List ℕ) × HasNoLf part × Consumes old new part × (after ≡ before ++ part) × (length after ≤ limit) × (0 < length part)
MovesPart limit old new before after (Ok Missing) = Consumes old new [] × IsAllOf [] old × (after ≡ before)
MovesPart limit old new before after (Err TooLong) =
    (part : List ℕ) × HasNoLf part × Consumes old new part × (after ≡ before ++ part) × (length after ≡ limit + 1)
MovesPart limit old new before after (Err Read) = Consumes old new [] × (after ≡ before)
MovesPart limit old new before after (Err Memory) = Consumes old new [] × (after ≡ before)
MovesPart limit old new before after (Err fault) = ⊥
