-- What a block of answers and its writer hold.
use Rattle.std.specs.Prelude.{◌≡◌, ◌⊎◌, ◌<◌, ℕ, List, [], ◌++◌, length, Option}
use Rattle.std.specs.Io.KnownBytes.{Appends}
use Rattle.key_lines.specs.LineReading.{HasNoLf}

-- what went out, and then the block after it, is what the block had
pub record Sends (out out' : Option (List ℕ)) (block block' : List ℕ) : Type 0 where
  pub sent : List ℕ
  pub written : Appends out out' sent
  pub kept : block ≡ sent ++ block'

-- A run may read on while its block has these bytes: all answers went out, or they are few and the next line needs no
-- read, which might wait for one of them.
abbrev pub MayReadOn : (buffered block : List ℕ) → Type 0
MayReadOn buffered block = (block ≡ []) ⊎ ((length block < 65536) × ¬ HasNoLf buffered)
