-- The round keys that are made from words keep these words.
use Rattle.std.proofs.Common.{◌≡◌, inl, inr, ℕ, zero, suc, ◌+◌, ◌*◌, ◌/◌, ◌%◌, ◌^◌, ◌<◌, ◌≤◌, List, length, take, slice_index, ap, sym, subst, ◌∙◌}
use Rattle.std.proofs.Common.{arith, eq-eqb, ne_eqb}
use Rattle.std.proofs.lemmas.Bool.{cases_lt}
use Rattle.std.proofs.lemmas.List.{get_or-take, length-take-le}
use Rattle.std.proofs.lemmas.List.FromFn.{fill_by_all}
use Rattle.std.proofs.lemmas.Nat.{from_be_bytes-to_be_bytes_4}
use Rattle.fips197.specs.KeyExpansion.{key_word, round_key}
use Rattle.fips197.specs.Keyed.{IsRoundCount}
use Rattle.fips197.specs.ExpandingLaw.{round_key_same}
use Rattle.aes_vector.specs.declared.keys.RoundKey.{RoundKey}
use Rattle.aes_vector.specs.VectorSchedule.{IsFirstKey, IsMiddleKey, IsLastKey, AreRoundKeys, IsVectorSchedule, block_at, key_at, words_of}

-- the four words of a round key
word_of_key : (w : List ℕ) (k c : ℕ) → c < 4 → ((i : ℕ) → slice_index w i < 2 ^ 32) → key_word (round_key w k) c ≡ slice_index w (4 * k + c)
unfolding round_key
word_of_key w k zero h fits = from_be_bytes-to_be_bytes_4 (slice_index w (4 * k + 0)) (fits (4 * k + 0))
word_of_key w k (suc zero) h fits = from_be_bytes-to_be_bytes_4 (slice_index w (4 * k + 1)) (fits (4 * k + 1))
word_of_key w k (suc (suc zero)) h fits = from_be_bytes-to_be_bytes_4 (slice_index w (4 * k + 2)) (fits (4 * k + 2))
word_of_key w k (suc (suc (suc zero))) h fits = from_be_bytes-to_be_bytes_4 (slice_index w (4 * k + 3)) (fits (4 * k + 3))
word_of_key w k (suc (suc (suc (suc c)))) h fits = absurd (omega (arith, h))

module _ (w : List ℕ) (rounds : ℕ) (keys : List RoundKey) (are : AreRoundKeys w rounds keys) where
  first_block : (k : ℕ) → k < rounds → block_at rounds keys k ≡ round_key w k
  first_block k h =
      let other = ne_eqb k rounds (omega (arith, h)) in
      rw other
      (elim (cases_lt 0 k) [
        | inl some ↦ (are.middle k some h).enc
        | inr none ↦ let first : k ≡ 0 = omega (arith, none) in rw first are.first.enc
      ])

  block_is : (k : ℕ) → k ≤ rounds → block_at rounds keys k ≡ round_key w k
  block_is k h = elim (cases_lt k rounds) [
    | inl before ↦ first_block k before
    | inr after ↦
        let last : k ≡ rounds = omega (arith, h, after) in
        let test = eq-eqb k rounds last in
        rw test (subst (λ (j : ℕ). IsLastKey (key_at keys j) (round_key w j)) (sym last) are.last).enc
  ]

  module _ (long : 4 * (rounds + 1) ≤ length w) (fits : (i : ℕ) → slice_index w i < 2 ^ 32) where
    words_kept : words_of rounds keys ≡ take (4 * (rounds + 1)) w
    unfolding words_of
    words_kept =
        let n : ℕ = 4 * (rounds + 1) in
        sym
        (fill_by_all (λ (i : ℕ). key_word (block_at rounds keys (i / 4)) (i % 4)) (take n w) n 0 (length-take-le n w long)
        (λ i h.
        let place : 4 * (i / 4) + i % 4 ≡ i = omega arith in
        get_or-take n w i 0 h
        ∙ ap (slice_index w) (sym place)
        ∙ sym (word_of_key w (i / 4) (i % 4) (omega arith) fits)
        ∙ ap (λ (b : List ℕ). key_word b (i % 4)) (sym (block_is (i / 4) (omega (arith, h))))))

    same_key : (k : ℕ) → k ≤ rounds → round_key w k ≡ round_key (words_of rounds keys) k
    same_key k h =
        round_key_same w (words_of rounds keys) k
        (λ c lt.
        let within : 4 * k + c < 4 * (rounds + 1) = omega (arith, h, lt) in
        sym (ap (λ (v : List ℕ). slice_index v (4 * k + c)) words_kept ∙ get_or-take (4 * (rounds + 1)) w (4 * k + c) 0 within))

    pub kept : IsRoundCount rounds → IsVectorSchedule rounds keys × (words_of rounds keys ≡ take (4 * (rounds + 1)) w)
    kept legal =
        let count : length (words_of rounds keys) ≡ 4 * (rounds + 1) = ap length words_kept ∙ length-take-le (4 * (rounds + 1)) w long in (
          record {
            count = record { legal = legal; words = count; value = omega (arith, count) };
            keys_are = record {
              first = subst (λ (b : List ℕ). IsFirstKey (key_at keys 0) b) (same_key 0 (omega arith)) are.first;
              middle = λ k p h. subst (λ (b : List ℕ). IsMiddleKey (key_at keys k) b) (same_key k (omega (arith, h))) (are.middle k p h);
              last = subst (λ (b : List ℕ). IsLastKey (key_at keys rounds) b) (same_key rounds (omega arith)) are.last;
            };
          },
          words_kept,
        )
