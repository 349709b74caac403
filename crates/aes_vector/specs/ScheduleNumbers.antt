-- The contents of the memory for a key schedule.
use Rattle.std.specs.Prelude.{ℕ, List, ◌++◌, replicate}
use Rattle.std.specs.List.{flat_map}
use Rattle.aes_vector.specs.declared.keys.RoundKey.{RoundKey}

-- the numbers of the round keys, and the words
abbrev pub numbers : List RoundKey → List ℕ → List ℕ
numbers keys words = flat_map (λ (key : RoundKey). key.enc ++ key.dec) keys ++ words

-- zeros in place of a round key
abbrev pub no_key : RoundKey
no_key = record { enc = replicate 16 0; dec = replicate 16 0 }
