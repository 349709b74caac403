-- The three checks of RFC 5649, section 3, on an initial value and the registers: they pass where these hold a key.
use Rattle.std.proofs.Common.{◌≡◌, ℕ, suc, ◌+◌, ◌-◌, ◌*◌, ◌/◌, ◌%◌, ◌^◌, ◌<◌, ◌≤◌, List, [], ◌∷◌, ◌++◌, length, take, drop, replicate, refl, sym, ap, subst}
use Rattle.std.proofs.Common.{◌∙◌, arith, length-take, length-drop}
use Rattle.std.proofs.lemmas.List.{take-append-drop, take_all, drop_at}
use Rattle.std.proofs.lemmas.List.Elements.{All-replicate}
use Rattle.std.specs.List.{All}
use Rattle.block_pair.specs.Words.{IsWord}
use Rattle.key_wrap_core.specs.declared.lengths.TheConstants.{MAX_KEY}
use Rattle.key_wrap_core.specs.Words.{word_bytes}
use Rattle.key_wrap_core.specs.Lengths.{IsPaddedKeyLength}
use Rattle.key_wrap_core.specs.Padded.{aiv, padded, word_count}
use Rattle.key_wrap_core.specs.PaddedRegisters.{IsAivAndKey, HasKeyLength}
use Rattle.key_wrap_core.proofs.Spelling.{length-word_bytes, word_front}
use Rattle.key_wrap_core.proofs.PaddedForm.{aiv_word}
use Rattle.key_wrap_core.proofs.FormLengths.{length-padded}

-- zeros only
pub zeros : (xs : List ℕ) → All (λ x. x ≡ 0) xs → xs ≡ replicate (length xs) 0
zeros [] h = refl
zeros (x ∷ xs) h =
    let first : x ≡ 0 = h 0 0 (omega arith) in
    let rest = zeros xs (λ k d lt. h (suc k) d (omega arith)) in
    cc (first, rest)

-- registers that pass the checks hold a key of the length that the initial value says
pub passes_word : (iv len : ℕ) (registers : List ℕ) → length registers % 8 ≡ 0 → 8 ≤ length registers → length registers ≤ MAX_KEY → iv / 2 ^ 32 ≡ 0xA659_59A6
    → iv % 2 ^ 32 ≡ len
    → length registers < len + 8 → len ≤ length registers → All (λ x. x ≡ 0) (drop len registers) → HasKeyLength (word_bytes iv ++ registers) len
passes_word iv len registers whole some most prefix number low high blank =
    let rest : drop 8 (word_bytes iv ++ registers) ≡ registers = drop_at (word_bytes iv) registers 8 (length-word_bytes iv) in
    let value : iv ≡ aiv len = omega arith in
    let size : length (take len registers) ≡ len = omega (arith, length-take len registers) in
    let padding : drop len registers ≡ replicate (8 * word_count len - len) 0 = zeros (drop len registers) blank
    ∙ ap (λ (n : ℕ). replicate n 0) (omega (arith, length-drop len registers)) in
    let all : registers ≡ take len registers ++ replicate (8 * word_count len - len) 0 = sym (take-append-drop len registers)
    ∙ ap (λ (b : List ℕ). take len registers ++ b) padding in
    let holds : word_bytes iv ++ registers ≡ word_bytes (aiv len) ++ (take len registers ++ replicate (8 * word_count len - len) 0) =
    ap (λ (v : ℕ). word_bytes v ++ registers) value ∙ ap (λ (b : List ℕ). word_bytes (aiv len) ++ b) all in
    record {
      legal = (omega arith, omega arith);
      size = rw rest size;
      holds = rw rest (subst (λ (n : ℕ). word_bytes iv ++ registers ≡ word_bytes (aiv n) ++ (take len registers ++ replicate (8 * word_count n - n) 0))
          (sym size) holds);
    }

-- registers that hold a key pass the checks
pub held_word : (iv : ℕ) (registers key : List ℕ) → IsWord iv → IsPaddedKeyLength (length key) → IsAivAndKey (word_bytes iv ++ registers) key
    → (iv / 2 ^ 32 ≡ 0xA659_59A6) × (iv % 2 ^ 32 ≡ length key) × (length registers < length key + 8) × (length key ≤ length registers) × All (λ x. x ≡ 0)
    (drop (length key) registers)
held_word iv registers key word legal holds =
    let front = word_front iv (aiv (length key)) registers (padded key) word (aiv_word (length key) legal.1) holds in
    let value : iv ≡ aiv (length key) = front.0 in
    let size : length registers ≡ 8 * word_count (length key) = ap length front.1 ∙ length-padded key in
    let padding : List ℕ = replicate (8 * word_count (length key) - length key) 0 in
    let blank : drop (length key) registers ≡ padding = ap (drop (length key)) front.1 ∙ drop_at key padding (length key) refl in (
      omega arith,
      omega arith,
      omega arith,
      omega arith,
      subst (λ (xs : List ℕ). All (λ x. x ≡ 0) xs) (sym blank) (All-replicate (λ (x : ℕ). x ≡ 0) (8 * word_count (length key) - length key) 0 refl),
    )

-- a slice from a place on
pub tail_slice : (n : ℕ) (xs : List ℕ) → take (length xs - n) (drop n xs) ≡ drop n xs
tail_slice n xs = take_all (length xs - n) (drop n xs) (omega (arith, length-drop n xs))
