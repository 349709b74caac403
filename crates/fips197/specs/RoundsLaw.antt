-- Each transformation of a round takes blocks to blocks, and its inverse undoes it.
use Rattle.std.proofs.Common.{◌≡◌, ℕ, ◌+◌, ◌-◌, ◌%◌, List, refl, ap, bit_xor, ◌∙◌}
use Rattle.block_pair.specs.Words.{IsByte, IsBlock}
use Rattle.block_pair.specs.Pair.{AreInverse}
use Rattle.fips197.specs.Xor.{xor_twice}
use Rattle.fips197.specs.State.{entry, state}
use Rattle.fips197.specs.StateLaw.{all_bytes, entry_byte, state_block, state_is, state-entry, entry-state}
use Rattle.fips197.specs.SBox.{s_box, inv_s_box}
use Rattle.fips197.specs.SBoxLaw.{s_box_byte, inv_s_box_byte, inv_s_box-s_box, s_box-inv_s_box}
use Rattle.fips197.specs.Rounds.{sub_bytes, inv_sub_bytes, shift_rows, inv_shift_rows, mix_columns, inv_mix_columns, mix_matrix, inv_mix_matrix}
use Rattle.fips197.specs.Rounds.{add_round_key}
use Rattle.fips197.specs.MixColumnsLaw.{xor_byte, multiplied_block, multiplied_undone, inv_mix-mix, mix-inv_mix}

-- one function on each entry, and then its inverse
each_undone : (f g : ℕ → ℕ) → ((x : ℕ) → IsByte x → g (f x) ≡ x) → (s : List ℕ) → IsBlock s
    → state (λ r c. g (entry (state (λ r c. f (entry s r c))) r c)) ≡ s
each_undone f g h s hs =
    state_is _ s hs (λ r c hr hc. ap g (entry-state (λ r c. f (entry s r c)) r c hr hc) ∙ h (entry s r c) (entry_byte s hs r c))

pub sub_bytes_inverse : AreInverse sub_bytes inv_sub_bytes
unfolding sub_bytes inv_sub_bytes
sub_bytes_inverse = record {
  encrypts = λ s h. state_block _ (λ r c. s_box_byte (entry s r c) (entry_byte s h r c));
  decrypts = λ s h. state_block _ (λ r c. inv_s_box_byte (entry s r c) (entry_byte s h r c));
  undone = each_undone s_box inv_s_box inv_s_box-s_box;
  redone = each_undone inv_s_box s_box s_box-inv_s_box;
}

pub shift_rows_inverse : AreInverse shift_rows inv_shift_rows
unfolding shift_rows inv_shift_rows
shift_rows_inverse = record {
  encrypts = λ s h. state_block _ (λ r c. entry_byte s h r ((c + r) % 4));
  decrypts = λ s h. state_block _ (λ r c. entry_byte s h r ((c + (4 - r)) % 4));
  undone = state-entry;
  redone = state-entry;
}

pub mix_columns_inverse : AreInverse mix_columns inv_mix_columns
mix_columns_inverse = record {
  encrypts = λ s h. multiplied_block mix_matrix s (all_bytes mix_matrix refl) h;
  decrypts = λ s h. multiplied_block inv_mix_matrix s (all_bytes inv_mix_matrix refl) h;
  undone = λ s h. multiplied_undone inv_mix_matrix mix_matrix s inv_mix-mix h;
  redone = λ s h. multiplied_undone mix_matrix inv_mix_matrix s mix-inv_mix h;
}

-- the round key added twice
added_twice : (k s : List ℕ) → IsBlock s → add_round_key k (add_round_key k s) ≡ s
unfolding add_round_key
added_twice k s hs =
    state_is _ s hs (λ r c hr hc.
    ap (λ (x : ℕ). bit_xor x (entry k r c)) (entry-state (λ r c. bit_xor (entry s r c) (entry k r c)) r c hr hc)
    ∙ xor_twice (entry s r c) (entry k r c))

add_round_key_block : (k s : List ℕ) → IsBlock k → IsBlock s → IsBlock (add_round_key k s)
unfolding add_round_key
add_round_key_block k s hk hs = state_block _ (λ r c. xor_byte _ _ (entry_byte s hs r c) (entry_byte k hk r c))

pub add_round_key_inverse : (k : List ℕ) → IsBlock k → AreInverse (add_round_key k) (add_round_key k)
add_round_key_inverse k hk = record {
  encrypts = λ s. add_round_key_block k s hk;
  decrypts = λ s. add_round_key_block k s hk;
  undone = added_twice k;
  redone = added_twice k;
}
