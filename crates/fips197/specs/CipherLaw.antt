-- The cipher and the inverse cipher undo each other, by any list of words in the place of a key schedule.
use Rattle.std.proofs.Common.{ℕ, zero, suc, ◌-◌, List, refl, ap, ◌∙◌}
use Rattle.block_pair.specs.Pair.{AreInverse}
use Rattle.fips197.specs.KeyExpansion.{round_key, rounds_in}
use Rattle.fips197.specs.KeyExpansionLaw.{round_key_block}
use Rattle.fips197.specs.Rounds.{sub_bytes, inv_sub_bytes, shift_rows, inv_shift_rows, add_round_key}
use Rattle.fips197.specs.RoundsLaw.{sub_bytes_inverse, shift_rows_inverse, mix_columns_inverse, add_round_key_inverse}
use Rattle.fips197.specs.Cipher.{round, last_round, rounds, inv_round, inv_last_round, inv_rounds, cipher_by, inv_cipher_by}

-- two steps, undone in the opposite order
both_inverse : (E D F G : List ℕ → List ℕ) → AreInverse E D → AreInverse F G → AreInverse (λ b. F (E b)) (λ b. D (G b))
both_inverse E D F G p q = record {
  encrypts = λ b h. q.encrypts (E b) (p.encrypts b h);
  decrypts = λ b h. p.decrypts (G b) (q.decrypts b h);
  undone = λ b h. ap D (q.undone (E b) (p.encrypts b h)) ∙ p.undone b h;
  redone = λ b h. ap F (p.redone (G b) (q.decrypts b h)) ∙ q.redone b h;
}

unchanged_inverse : AreInverse (λ b. b) (λ b. b)
unchanged_inverse = record { encrypts = λ b h. h; decrypts = λ b h. h; undone = λ b h. refl; redone = λ b h. refl }

key_inverse : (w : List ℕ) (k : ℕ) → AreInverse (add_round_key (round_key w k)) (add_round_key (round_key w k))
key_inverse w k = add_round_key_inverse (round_key w k) (round_key_block w k)

sub_shift_inverse : AreInverse (λ s. shift_rows (sub_bytes s)) (λ s. inv_sub_bytes (inv_shift_rows s))
sub_shift_inverse = both_inverse _ _ _ _ sub_bytes_inverse shift_rows_inverse

last_round_inverse : (w : List ℕ) (k : ℕ) → AreInverse (last_round (round_key w k)) (inv_last_round (round_key w k))
last_round_inverse w k = both_inverse _ _ _ _ sub_shift_inverse (key_inverse w k)

round_inverse : (w : List ℕ) (k : ℕ) → AreInverse (round (round_key w k)) (inv_round (round_key w k))
round_inverse w k = both_inverse _ _ _ _ (both_inverse _ _ _ _ sub_shift_inverse mix_columns_inverse) (key_inverse w k)

rounds_inverse : (w : List ℕ) (n : ℕ) → AreInverse (rounds w n) (inv_rounds w n)
unfolding rounds inv_rounds
rounds_inverse w zero = unchanged_inverse
rounds_inverse w (suc n) = both_inverse _ _ _ _ (rounds_inverse w n) (round_inverse w (suc n))

pub cipher_by_inverse : (w : List ℕ) → AreInverse (cipher_by w) (inv_cipher_by w)
unfolding cipher_by inv_cipher_by
cipher_by_inverse w =
    both_inverse _ _ _ _
    (both_inverse _ _ _ _ (key_inverse w 0) (rounds_inverse w (rounds_in w - 1))) (last_round_inverse w (rounds_in w))
