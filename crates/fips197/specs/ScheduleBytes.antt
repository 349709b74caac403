-- A key schedule as bytes: each word in four, the first of them the most significant. The promises of the calls that
-- write it and read it.
use Rattle.std.specs.Prelude.{◌≡◌, ◌↔◌, ◌⊎◌, ℕ, ◌+◌, ◌*◌, ◌/◌, List, length, map, take, Option, IsSome, IfSome, Result, Err, IsOk, IsErr, IfOk}
use Rattle.std.specs.Int.{w32, to_be_bytes}
use Rattle.std.specs.List.{flat_map, range_with_len}
use Rattle.fips197.specs.KeyExpansion.{IsKekLength, key_expansion, key_word, rounds_of}
use Rattle.fips197.specs.Keyed.{IsRoundCount}
use Rattle.fips197.specs.declared.schedule_bytes.ScheduleFault.{ScheduleFault}
use Rattle.fips197.specs.declared.schedule_bytes.ScheduleFault.TheVariants.{BadKekLength}

-- 16 bytes for each of 11, 13 or 15 round keys
abbrev pub IsScheduleLength : ℕ → Type 0
IsScheduleLength n = (n ≡ 176) ⊎ ((n ≡ 208) ⊎ (n ≡ 240))

-- the words in a list of bytes
unfoldable pub words_in : List ℕ → List ℕ
words_in s = map (key_word s) (range_with_len 0 (length s / 4))

-- the key schedule of `kek`, written over the whole of a buffer of its length
pub record WritesSchedule (kek old new : List ℕ) (result : Result (Unit {0}) ScheduleFault) : Type 0 where
  pub written : IsOk result ↔ (IsKekLength (length kek) × (length old ≡ 16 * (rounds_of kek + 1)))
  pub bad_kek : (result ≡ Err BadKekLength) ↔ ¬ IsKekLength (length kek)
  pub bytes : IfOk result (λ _. new ≡ flat_map (to_be_bytes w32) (key_expansion kek))
  pub words : IfOk result (λ _. words_in new ≡ key_expansion kek)
  pub kept : IsErr result → new ≡ old

-- the words of a schedule, read into w, and for how many rounds they are
pub record ReadsSchedule (schedule w : List ℕ) (result : Option ℕ) : Type 0 where
  pub accepted : IsSome result ↔ IsScheduleLength (length schedule)
  pub legal : IfSome result (λ rounds. IsRoundCount rounds)
  pub words : IfSome result (λ rounds. take (4 * (rounds + 1)) w ≡ words_in schedule)

-- an AES by the words in a schedule, or none for another length
pub record LoadsAes (schedule : List ℕ) (made : Option (List ℕ)) : Type 0 where
  pub accepted : IsSome made ↔ IsScheduleLength (length schedule)
  pub words : IfSome made (λ w. w ≡ words_in schedule)
