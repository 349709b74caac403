-- What is still to be undone of the state, once InvShiftRows and InvSubBytes of round k are, is what was to be undone of the block at the start.
use Rattle.std.proofs.Common.{◌≡◌, ◌-◌, map}
use Rattle.fips197.specs.KeyExpansion.{round_key}
use Rattle.fips197.specs.Rounds.{inv_shift_rows, inv_sub_bytes}
use Rattle.fips197.specs.Cipher.{inv_last_round, inv_rounds}
use Rattle.aes_vector.specs.Tower.{affine_element}
use Rattle.aes_vector.proofs.cipher.LentAesBlockPair.dec.Given as goal

abbrev pub invariant-loop-k : goal.invariant-loop-k
invariant-loop-k l =
    inv_rounds l.self (l.k - 1) (inv_sub_bytes (inv_shift_rows (map affine_element l.state)))
    ≡ inv_rounds l.self (l.last - 1) (inv_last_round (round_key l.self l.last) l.fn.b)
