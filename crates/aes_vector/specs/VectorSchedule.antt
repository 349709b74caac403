-- How a `VectorAes` keeps its key schedule: as its round keys, each in the forms in which the rounds of both directions take it.
use Rattle.std.specs.Prelude.{◌≡◌, ℕ, ◌+◌, ◌*◌, ◌/◌, ◌%◌, ◌<◌, ◌==◌, if◌then◌else◌, List, [], map, slice_index_or}
use Rattle.std.specs.List.{range_with_len}
use Rattle.fips197.specs.KeyExpansion.{key_word, round_key}
use Rattle.fips197.specs.Keyed.{HasRounds}
use Rattle.fips197.specs.Rounds.{inv_mix_columns}
use Rattle.aes_vector.specs.declared.keys.RoundKey.{RoundKey}
use Rattle.aes_vector.specs.Tower.{key_byte, last_key_byte, affine_element}

-- round key k as it is stored
abbrev pub key_at : List RoundKey → ℕ → RoundKey
key_at keys k = slice_index_or keys k (record { enc = []; dec = [] })

-- the forms of round key 0: the cipher begins with it, and the inverse cipher ends
pub record IsFirstKey (key : RoundKey) (block : List ℕ) : Type 0 where
  pub enc : map key_byte key.enc ≡ block
  pub dec : key.dec ≡ block

-- the forms of a round key between the first and the last: the inverse cipher adds it after InvMixColumns (5.3.5)
pub record IsMiddleKey (key : RoundKey) (block : List ℕ) : Type 0 where
  pub enc : map key_byte key.enc ≡ block
  pub dec : map affine_element key.dec ≡ inv_mix_columns block

-- the forms of the last round key: the cipher ends with it, and the inverse cipher begins with it
pub record IsLastKey (key : RoundKey) (block : List ℕ) : Type 0 where
  pub enc : map last_key_byte key.enc ≡ block
  pub dec : map affine_element key.dec ≡ block

-- the round keys of the key schedule w
pub record AreRoundKeys (w : List ℕ) (rounds : ℕ) (keys : List RoundKey) : Type 0 where
  pub first : IsFirstKey (key_at keys 0) (round_key w 0)
  pub middle : (k : ℕ) → 0 < k → k < rounds → IsMiddleKey (key_at keys k) (round_key w k)
  pub last : IsLastKey (key_at keys rounds) (round_key w rounds)

-- round key k, from the form for the cipher
abbrev pub block_at : ℕ → List RoundKey → ℕ → List ℕ
block_at rounds keys k = let key = (key_at keys k).enc in if k == rounds then map last_key_byte key else map key_byte key

-- the words of the round keys
unfoldable pub words_of : ℕ → List RoundKey → List ℕ
words_of rounds keys = map (λ i. key_word (block_at rounds keys (i / 4)) (i % 4)) (range_with_len 0 (4 * (rounds + 1)))

pub record IsVectorSchedule (rounds : ℕ) (keys : List RoundKey) : Type 0 where
  pub count : HasRounds (words_of rounds keys) rounds
  pub keys_are : AreRoundKeys (words_of rounds keys) rounds keys
