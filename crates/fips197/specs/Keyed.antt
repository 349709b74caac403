-- The promises of the calls that make an AES from a key-encryption key, and that say how many rounds it has. Contracts
-- see an AES as its key schedule.
use Rattle.std.specs.Prelude.{◌≡◌, ◌↔◌, ◌⊎◌, ℕ, ◌+◌, ◌*◌, List, length, Result, IsOk, IsErr, IfOk}
use Rattle.fips197.specs.KeyExpansion.{IsKekLength, IsKeyExpansion, key_expansion, rounds_in}
use Rattle.fips197.specs.declared.bad_kek_length.BadKekLength.{BadKekLength}

-- an AES under `kek`, or the error for its length. The last field is a law for callers, about definitions only: the key
-- has one key schedule, given by the standard's equations, and the round keys come from it.
pub record MakesAes (kek : List ℕ) (made : Result (List ℕ) BadKekLength) : Type 0 where
  pub accepted : IsOk made ↔ IsKekLength (length kek)
  pub refused : IsErr made ↔ ¬ IsKekLength (length kek)
  pub words : IfOk made (λ w. w ≡ key_expansion kek)
  pub schedule : IsKekLength (length kek) → (w : List ℕ) → IsKeyExpansion kek w ↔ (w ≡ key_expansion kek)

-- Nr is 10, 12 or 14 (5, table 3)
abbrev pub IsRoundCount : ℕ → Type 0
IsRoundCount n = (n ≡ 10) ⊎ ((n ≡ 12) ⊎ (n ≡ 14))

-- how many rounds the cipher has by this key schedule
pub record HasRounds (w : List ℕ) (rounds : ℕ) : Type 0 where
  pub legal : IsRoundCount rounds
  pub words : length w ≡ 4 * (rounds + 1)
  pub value : rounds ≡ rounds_in w
