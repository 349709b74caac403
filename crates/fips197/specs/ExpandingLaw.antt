-- What a key schedule computes at each step, and its round keys: laws for each implementation of AES.
-- The code's words are compared with the definition's place by place; bytes become words, and words bytes, four at a time.
use Rattle.std.proofs.Common.{◌≡◌, ◌≢◌, ℕ, ◌+◌, ◌-◌, ◌*◌, ◌/◌, ◌%◌, ◌^◌, ◌<◌, ◌≤◌, bit_xor, w32, zero, suc, List, [], ◌∷◌, ◌++◌, length, get_or, take, drop}
use Rattle.std.proofs.Common.{slice_index, refl, sym, ap, ap₂, ◌∙◌, arith, eq-eqb, ne_eqb, add-zero, lit<, drop-cons, length-drop}
use Rattle.std.proofs.Common.{take-append-drop}
use Rattle.std.specs.Int.{rotate_left, to_be_bytes}
use Rattle.std.specs.List.{flat_map}
use Rattle.std.proofs.lemmas.List.{ext_get_or, get_or-drop, take_all}
use Rattle.std.proofs.lemmas.Nat.{or_shifted, be_bytes_4}
use Rattle.byteorder.specs.Endian.{big_number}
use Rattle.fips197.specs.Words.{block_of}
use Rattle.fips197.specs.KeyExpansion.{key_word, round_key, rot_word, sub_word, round_constants, temp}

-- RotWord is a rotation by one byte
pub rotated_word : (w : ℕ) → w < 2 ^ 32 → rotate_left w32 w 8 ≡ rot_word w
unfolding rot_word
rotated_word w h =
    let low : w / 2 ^ 24 < 2 ^ 8 = omega arith in
    let high : w * 2 ^ 8 % 2 ^ 32 ≡ w % 2 ^ 24 * 2 ^ 8 = omega arith in
    rw high (or_shifted (w % 2 ^ 24) 8 (w / 2 ^ 24) low ∙ omega arith)

-- the three cases of what is xored to a word
pub temp_first : (Nk i w : ℕ) → i % Nk ≡ 0 → bit_xor (sub_word (rot_word w)) (slice_index round_constants (i / Nk - 1)) ≡ temp Nk i w
unfolding temp
temp_first Nk i w h =
    let test = eq-eqb (i % Nk) 0 h in
    rw test refl

pub temp_middle : (Nk i w : ℕ) → i % Nk ≢ 0 → Nk ≡ 8 → i % 8 ≡ 4 → sub_word w ≡ temp Nk i w
unfolding temp
temp_middle Nk i w h eight four =
    let first = ne_eqb (i % Nk) 0 h in
    let wide = eq-eqb Nk 8 eight in
    let middle = eq-eqb (i % 8) 4 four in
    rw (first, wide, middle) refl

pub temp_short : (Nk i w : ℕ) → i % Nk ≢ 0 → Nk ≢ 8 → w ≡ temp Nk i w
unfolding temp
temp_short Nk i w h short =
    let first = ne_eqb (i % Nk) 0 h in
    let wide = ne_eqb Nk 8 short in
    rw (first, wide) refl

pub temp_else : (Nk i w : ℕ) → i % Nk ≢ 0 → Nk ≡ 8 → i % 8 ≢ 4 → w ≡ temp Nk i w
unfolding temp
temp_else Nk i w h eight other =
    let first = ne_eqb (i % Nk) 0 h in
    let wide = eq-eqb Nk 8 eight in
    let middle = ne_eqb (i % 8) 4 other in
    rw (first, wide, middle) refl

-- the word that is read from the key's bytes
pub read_word : (K : List ℕ) (i : ℕ) → big_number 4 (drop (4 * i) K) ≡ key_word K i
read_word K i =
    rw (get_or-drop (4 * i) K 0 0, get_or-drop (4 * i) K 1 0, get_or-drop (4 * i) K 2 0, get_or-drop (4 * i) K 3 0, add-zero (4 * i)) (omega arith)

-- four words in a row
four_words : (s : List ℕ) (m : ℕ) → m + 4 ≤ length s
    → take 4 (drop m s) ≡ slice_index s (m + 0) ∷ slice_index s (m + 1) ∷ slice_index s (m + 2) ∷ slice_index s (m + 3) ∷ []
four_words s m h =
    let h0 : m < length s = omega arith in
    let h1 : suc m < length s = omega arith in
    let h2 : suc (suc m) < length s = omega arith in
    let h3 : suc (suc (suc m)) < length s = omega arith in
    let e0 : m + 0 ≡ m = omega arith in
    let e1 : m + 1 ≡ suc m = omega arith in
    let e2 : m + 2 ≡ suc (suc m) = omega arith in
    let e3 : m + 3 ≡ suc (suc (suc m)) = omega arith in
    rw (e0, e1, e2, e3, drop-cons s m 0, drop-cons s (suc m) 0, drop-cons s (suc (suc m)) 0, drop-cons s (suc (suc (suc m))) 0) refl

-- the block of four words from the bytes of each
pub joined : (a b c d : ℕ) (v w x y : List ℕ) → to_be_bytes w32 a ≡ v → to_be_bytes w32 b ≡ w → to_be_bytes w32 c ≡ x → to_be_bytes w32 d ≡ y
    → block_of (a ∷ b ∷ c ∷ d ∷ []) ≡ v ++ (w ++ (x ++ (y ++ [])))
joined a b c d v w x y ea eb ec ed =
    ap₂ (λ (s t : List ℕ). s ++ t) ea (ap₂ (λ (s t : List ℕ). s ++ t) eb (ap₂ (λ (s t : List ℕ). s ++ t) ec (ap (λ (s : List ℕ). s ++ []) ed)))

-- the four words of round key k
pub words_key : (w : List ℕ) (k : ℕ)
    → block_of (slice_index w (4 * k) ∷ slice_index w (4 * k + 1) ∷ slice_index w (4 * k + 2) ∷ slice_index w (4 * k + 3) ∷ []) ≡ round_key w k
unfolding round_key
words_key w k =
    let first : 4 * k ≡ 4 * k + 0 = omega arith in
    ap (λ i. block_of (slice_index w i ∷ slice_index w (4 * k + 1) ∷ slice_index w (4 * k + 2) ∷ slice_index w (4 * k + 3) ∷ [])) first

-- a round key is of its four words alone
pub round_key_same : (v w : List ℕ) (k : ℕ) → ((c : ℕ) → c < 4 → slice_index v (4 * k + c) ≡ slice_index w (4 * k + c)) → round_key v k ≡ round_key w k
unfolding round_key
round_key_same v w k same =
    let at = λ (c : ℕ) (h : c < 4). ap (to_be_bytes w32) (same c h) in
    joined _ _ _ _ _ _ _ _ (at 0 (lit< tt)) (at 1 (lit< tt)) (at 2 (lit< tt)) (at 3 (lit< tt))

-- the words of a key past its first four bytes
pub key_word-drop : (K : List ℕ) (i : ℕ) → key_word K (suc i) ≡ key_word (drop 4 K) i
key_word-drop K i =
    let e0 : 4 * suc i ≡ 4 + 4 * i = omega arith in
    let e1 : 4 + 4 * i + 1 ≡ 4 + (4 * i + 1) = omega arith in
    let e2 : 4 + 4 * i + 2 ≡ 4 + (4 * i + 2) = omega arith in
    let e3 : 4 + 4 * i + 3 ≡ 4 + (4 * i + 3) = omega arith in
    rw (e0, e1, e2, e3, ← get_or-drop 4 K (4 * i) 0, ← get_or-drop 4 K (4 * i + 1) 0, ← get_or-drop 4 K (4 * i + 2) 0, ← get_or-drop 4 K (4 * i + 3) 0) refl

-- four bytes are bytes
four_bytes : (a b c d : ℕ) → a < 256 → b < 256 → c < 256 → d < 256 → (i : ℕ) → get_or (a ∷ b ∷ c ∷ d ∷ []) i 0 < 256
four_bytes a b c d ha hb hc hd zero = ha
four_bytes a b c d ha hb hc hd (suc zero) = hb
four_bytes a b c d ha hb hc hd (suc (suc zero)) = hc
four_bytes a b c d ha hb hc hd (suc (suc (suc zero))) = hd
four_bytes a b c d ha hb hc hd (suc (suc (suc (suc i)))) = omega arith

-- the bytes of a key's first word are its first four
first_word : (K : List ℕ) (w : ℕ) → 4 ≤ length K → ((i : ℕ) → slice_index K i < 256) → w ≡ key_word K 0 → to_be_bytes w32 w ≡ take 4 K
first_word K w long bytes e =
    be_bytes_4 (slice_index K 0 ∷ slice_index K 1 ∷ slice_index K 2 ∷ slice_index K 3 ∷ []) w refl
    (four_bytes (slice_index K 0) (slice_index K 1) (slice_index K 2) (slice_index K 3) (bytes 0) (bytes 1) (bytes 2) (bytes 3)) e
    ∙ sym (four_words K 0 long)

-- the bytes of the words of a list of bytes are the list
bytes_of_words : (n : ℕ) (ws K : List ℕ) → length ws ≡ n → length K ≡ 4 * n → ((i : ℕ) → slice_index K i < 256)
    → ((i : ℕ) → i < n → slice_index ws i ≡ key_word K i) → flat_map (to_be_bytes w32) ws ≡ K
bytes_of_words zero [] K hw hk bytes same = ext_get_or 0 [] K (omega arith) (λ i h. absurd (omega arith))
bytes_of_words zero (w ∷ ws) K hw hk bytes same = absurd (omega arith)
bytes_of_words (suc n) [] K hw hk bytes same = absurd (omega arith)
bytes_of_words (suc n) (w ∷ ws) K hw hk bytes same =
    let long : length (drop 4 K) ≡ 4 * n = omega (arith, length-drop 4 K) in
    let first = first_word K w (omega arith) bytes (same 0 (omega arith)) in
    let rest =
    bytes_of_words n ws (drop 4 K) (omega arith) long (λ i. rw (get_or-drop 4 K i 0) (bytes (4 + i)))
    (λ i h. same (suc i) (omega arith) ∙ key_word-drop K i) in
    ap₂ (λ (xs ys : List ℕ). xs ++ ys) first rest ∙ take-append-drop 4 K

-- four words are the columns of the block that they are read from
pub read_columns : (s b : List ℕ) → length s ≡ 4 → length b ≡ 16 → ((i : ℕ) → slice_index b i < 256)
    → ((i : ℕ) → i < 4 → slice_index s i ≡ key_word b i) → block_of s ≡ b
read_columns s b hs hb bytes same =
    sym (ap (flat_map (to_be_bytes w32)) (sym (take_all 4 s (omega arith)) ∙ four_words s 0 (omega arith))) ∙ bytes_of_words 4 s b hs hb bytes same
