-- What a call that reads a file takes from its reader, and answers.
use Rattle.std.specs.Prelude.{◌≡◌, ℕ, ◌+◌, ◌<◌, ◌≤◌, ◌↔◌, ⊤, List, length, Option, Result, Ok, Err}
use Rattle.std.specs.Io.KnownBytes.{Consumes, IsAtEnd}
use Rattle.std.specs.declared.vec.Vec.{Vec}
use Rattle.key_files.specs.declared.fault.FileFault.{FileFault}
use Rattle.key_files.specs.declared.fault.FileFault.TheVariants.{Read, TooLong, Memory}
use Rattle.key_files.specs.FileMeaning.{file_meaning}

-- an answer with its vector seen as a list
abbrev pub answer_of : {Z : Type 0} → Result (Vec ℕ Z) FileFault → Result (List ℕ) FileFault
answer_of (Ok bytes) = Ok bytes.items
answer_of (Err fault) = Err fault

-- the answer is this meaning, or Read or Memory in its place
abbrev pub IsMeaning : Result (List ℕ) FileFault → Result (List ℕ) FileFault → Type 0
IsMeaning (Err Read) meaning = ⊤
IsMeaning (Err Memory) meaning = ⊤
IsMeaning answer meaning = meaning ≡ answer

-- nothing is left in the reader, unless the answer is TooLong, Read or Memory
abbrev pub ReadsToEnd : Result (List ℕ) FileFault → Option (List ℕ) → Type 0
ReadsToEnd (Err TooLong) left = ⊤
ReadsToEnd (Err Read) left = ⊤
ReadsToEnd (Err Memory) left = ⊤
ReadsToEnd answer left = IsAtEnd left

-- The answer is what the bytes that the call took from the reader denote. `old` is the rest of the reader's input
-- before the call, and `new` its rest after it, if the reader reveals it.
pub record ReadsAs (meaning : List ℕ → Result (List ℕ) FileFault) (limit : ℕ) (old new : Option (List ℕ))
    (answer : Result (List ℕ) FileFault) : Type 0 where
  pub taken : List ℕ
  -- the reader is after the bytes that were taken
  pub stands_after : Consumes old new taken
  -- no more than one byte past the limit is taken
  pub at_most : length taken ≤ limit + 1
  -- beside what the taken bytes denote only Read and Memory are answered
  pub means : IsMeaning answer (file_meaning meaning limit taken)
  -- a file is too long as soon as one byte past the limit came
  pub too_long : (answer ≡ Err TooLong) ↔ (limit < length taken)
  pub to_end : ReadsToEnd answer new
