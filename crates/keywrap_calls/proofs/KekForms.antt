-- The cipher of a call, by the length of its KEK.
use Rattle.std.proofs.Common.{◌≡◌, ℕ, ◌-◌, ◌<◌, ◌≤◌, List, length, take, drop, arith, refl, length-drop}
use Rattle.std.proofs.lemmas.List.{take_all}
use Rattle.std.proofs.Common.{lt-ltb, le-ltb}
use Rattle.fips197.specs.KeyExpansion.{IsKekLength}
use Rattle.fips197.specs.Cipher.{cipher, cipher_by}
use Rattle.fips197.specs.ScheduleBytes.{IsScheduleLength, words_in}
use Rattle.keywrap_calls.specs.Keks.{aes_of}

pub of_kek : (kek : List ℕ) → IsKekLength (length kek) → aes_of kek ≡ cipher kek
unfolding aes_of
of_kek kek h =
    let short : length kek < 33 = grind (arith, h) in
    rw (lt-ltb (length kek) 33 short) refl

pub of_kept : (kept : List ℕ) → IsScheduleLength (length kept - 8) → aes_of kept ≡ cipher_by (words_in (drop 8 kept))
unfolding aes_of
of_kept kept h =
    let long : 33 ≤ length kept = grind (arith, h) in
    rw (le-ltb (length kept) 33 long) refl

-- the slice from place 8 on
pub rest : (kek : List ℕ) → take (length kek - 8) (drop 8 kek) ≡ drop 8 kek
rest kek = take_all (length kek - 8) (drop 8 kek) (omega (arith, length-drop 8 kek))
