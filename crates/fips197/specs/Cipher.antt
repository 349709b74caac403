-- The cipher and the inverse cipher (FIPS 197, sections 5.1 and 5.3): by a key schedule w, and under a key K.
use Rattle.std.specs.Prelude.{ℕ, zero, suc, ◌-◌, List}
use Rattle.fips197.specs.KeyExpansion.{key_expansion, round_key, rounds_in}
use Rattle.fips197.specs.Rounds.{sub_bytes, shift_rows, mix_columns, inv_sub_bytes, inv_shift_rows, inv_mix_columns, add_round_key}

-- a round with its round key: SubBytes, ShiftRows, MixColumns, AddRoundKey
abbrev pub round : List ℕ → List ℕ → List ℕ
round k s = add_round_key k (mix_columns (shift_rows (sub_bytes s)))

-- the last round, which has no MixColumns
abbrev pub last_round : List ℕ → List ℕ → List ℕ
last_round k s = add_round_key k (shift_rows (sub_bytes s))

-- rounds 1 to n, in this order
unfoldable pub rounds : List ℕ → ℕ → List ℕ → List ℕ
rounds w zero s = s
rounds w (suc n) s = round (round_key w (suc n)) (rounds w n s)

-- a round undone: the inverses in the opposite order
abbrev pub inv_round : List ℕ → List ℕ → List ℕ
inv_round k s = inv_sub_bytes (inv_shift_rows (inv_mix_columns (add_round_key k s)))

-- the last round undone
abbrev pub inv_last_round : List ℕ → List ℕ → List ℕ
inv_last_round k s = inv_sub_bytes (inv_shift_rows (add_round_key k s))

-- rounds n to 1 undone, in this order
unfoldable pub inv_rounds : List ℕ → ℕ → List ℕ → List ℕ
inv_rounds w zero s = s
inv_rounds w (suc n) s = inv_rounds w n (inv_round (round_key w (suc n)) s)

-- Cipher(in, Nr, w) (5.1): AddRoundKey 0, the rounds 1 to Nr - 1, the last round Nr
unfoldable pub cipher_by : List ℕ → List ℕ → List ℕ
cipher_by w b =
    let Nr = rounds_in w in
    last_round (round_key w Nr) (rounds w (Nr - 1) (add_round_key (round_key w 0) b))

-- InvCipher(in, Nr, w) (5.3): the inverses of these in the opposite order
unfoldable pub inv_cipher_by : List ℕ → List ℕ → List ℕ
inv_cipher_by w b =
    let Nr = rounds_in w in
    add_round_key (round_key w 0) (inv_rounds w (Nr - 1) (inv_last_round (round_key w Nr) b))

-- AES under the key K, by its key schedule
abbrev pub cipher : List ℕ → List ℕ → List ℕ
cipher K = cipher_by (key_expansion K)

abbrev pub inv_cipher : List ℕ → List ℕ → List ℕ
inv_cipher K = inv_cipher_by (key_expansion K)
