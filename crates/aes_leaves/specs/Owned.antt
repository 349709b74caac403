-- How an `OwnedAes` keeps its key schedule.
use Rattle.std.specs.Prelude.{ℕ, List, Option, Some, None}
use Rattle.fips197.specs.ScheduleBytes.{IsScheduleLength, words_in}

-- the words of the key schedule: of the AES by vectors, if there is one, or else those in the bytes for the leaves
abbrev pub owned_words : Option (List ℕ) → List ℕ → List ℕ
owned_words (Some words) bytes = words
owned_words None bytes = words_in bytes

-- without an AES by vectors, `len` is the length of a schedule
abbrev pub IsOwned : Option (List ℕ) → ℕ → Type 0
IsOwned (Some words) len = Unit {0}
IsOwned None len = IsScheduleLength len
