-- The laws of the key expansion: the computed list is one, and the only one; a round key is a block.
use Rattle.std.proofs.Common.{◌≡◌, inl, inr, ◌↔◌, ℕ, zero, suc, ◌+◌, ◌-◌, ◌*◌, ◌<◌, ◌≤◌, List, [], ◌∷◌, length, slice_index, refl, sym, subst, ◌∙◌, arith}
use Rattle.std.proofs.Common.{lt-ltb, le-ltb, length-append}
use Rattle.std.specs.Int.{w32, to_be_bytes}
use Rattle.std.specs.List.{AllByRecursion, flat_map}
use Rattle.std.proofs.lemmas.List.{ext_get_or, get_or_push, get_or_append_left}
use Rattle.std.proofs.lemmas.Bool.{cases_lt}
use Rattle.block_pair.specs.Words.{IsByte, IsBlock}
use Rattle.block_pair.specs.Each.{each_append}
use Rattle.fips197.specs.KeyExpansion.{IsKekLength, key_words, rounds_of, IsKeyExpansion, next_word, first_words, key_expansion, round_key}

-- a legal key has four to eight whole words
pub legal_words : (K : List ℕ) → IsKekLength (length K) → (4 ≤ key_words K) × (key_words K ≤ 8) × (length K ≡ 4 * key_words K)
legal_words K (inl e) = (omega arith, omega arith, omega arith)
legal_words K (inr (inl e)) = (omega arith, omega arith, omega arith)
legal_words K (inr (inr e)) = (omega arith, omega arith, omega arith)

pub length-first_words : (K : List ℕ) (n : ℕ) → length (first_words K n) ≡ n
unfolding first_words
length-first_words K zero = refl
length-first_words K (suc n) =
    omega (arith, length-append (first_words K n) (next_word K (first_words K n) n ∷ []), length-first_words K n)

-- w[i] is what the words before it make it, however many words there are
first_words-at : (K : List ℕ) (n i : ℕ) → i < n → slice_index (first_words K n) i ≡ next_word K (first_words K i) i
unfolding first_words
first_words-at K zero i h = absurd (omega arith)
first_words-at K (suc n) i h =
    let long = length-first_words K n in
    elim (cases_lt i n) [
      | inl before ↦
          let within : i < length (first_words K n) = omega arith in
          get_or_append_left (first_words K n) (next_word K (first_words K n) n ∷ []) 0 i within ∙ first_words-at K n i before
      | inr after ↦
          let e : i ≡ n = omega arith in
          rw e (get_or_push (first_words K n) (next_word K (first_words K n) n) 0 n long)
    ]

-- a word keeps its value as the list grows
first_words_same : (K : List ℕ) (n i j : ℕ) → j < i → i ≤ n → slice_index (first_words K i) j ≡ slice_index (first_words K n) j
first_words_same K n i j h k = first_words-at K i j h ∙ sym (first_words-at K n j (omega arith))

-- the list is a key expansion
pub key_expansion_is : (K : List ℕ) → IsKekLength (length K) → IsKeyExpansion K (key_expansion K)
unfolding key_expansion next_word
key_expansion_is K legal =
    let n : ℕ = 4 * (rounds_of K + 1) in
    let some = legal_words K legal in record {
      count = length-first_words K n;
      key =
          λ i h.
          let test = lt-ltb i (key_words K) h in
          first_words-at K n i (omega arith) ∙ rw test refl;
      next =
          λ i h below.
          let test = le-ltb i (key_words K) h in
          first_words-at K n i below
          ∙ rw (test, first_words_same K n i (i - key_words K) (omega arith) (omega arith), first_words_same K n i (i - 1) (omega arith) (omega arith)) refl;
    }

-- two key expansions agree below n
same_below : (K v w : List ℕ) → IsKekLength (length K) → IsKeyExpansion K v → IsKeyExpansion K w
    → (n : ℕ) → n ≤ 4 * (rounds_of K + 1) → (i : ℕ) → i < n → slice_index v i ≡ slice_index w i
same_below K v w legal hv hw zero h i below = absurd (omega arith)
same_below K v w legal hv hw (suc n) h i below =
    let some = legal_words K legal in
    let before = same_below K v w legal hv hw n (omega arith) in
    elim (cases_lt i n) [
      | inl earlier ↦ before i earlier
      | inr after ↦ elim (cases_lt i (key_words K)) [
        | inl k ↦ hv.key i k ∙ sym (hw.key i k)
        | inr k ↦
            hv.next i k (omega arith)
            ∙ rw (before (i - key_words K) (omega arith), before (i - 1) (omega arith)) refl
            ∙ sym (hw.next i k (omega arith))
      ]
    ]

-- there is one key expansion, which key_expansion computes
pub key_expansion_only : (K w : List ℕ) → IsKekLength (length K) → IsKeyExpansion K w ↔ (w ≡ key_expansion K)
key_expansion_only K w legal =
    let is = key_expansion_is K legal in
    let n : ℕ = 4 * (rounds_of K + 1) in (
      λ held. ext_get_or 0 w (key_expansion K) (held.count ∙ sym is.count)
          (λ i h. same_below K w (key_expansion K) legal held is n (omega arith) i (omega (arith, held.count))),
      λ e. subst (λ (x : List ℕ). IsKeyExpansion K x) (sym e) is,
    )

-- the four bytes of a word
word_bytes : (w : ℕ) → AllByRecursion IsByte (to_be_bytes w32 w)
word_bytes w = (omega arith, (omega arith, (omega arith, (omega arith, tt))))

-- the bytes of words are bytes
words_bytes : (word : ℕ → ℕ) (cs : List ℕ) → AllByRecursion IsByte (flat_map (λ c. to_be_bytes w32 (word c)) cs)
words_bytes word [] = tt
words_bytes word (c ∷ cs) =
    each_append IsByte (to_be_bytes w32 (word c)) (flat_map (λ d. to_be_bytes w32 (word d)) cs) (word_bytes (word c)) (words_bytes word cs)

pub round_key_block : (w : List ℕ) (k : ℕ) → IsBlock (round_key w k)
unfolding round_key
round_key_block w k = record { sixteen = refl; bytes = words_bytes (λ c. slice_index w (4 * k + c)) (0 ∷ 1 ∷ 2 ∷ 3 ∷ []) }
