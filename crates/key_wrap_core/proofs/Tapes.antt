-- What a tape fixes: E read forward fixes it from its front, and D read backward fixes it from its back.
use Rattle.std.proofs.Common.{◌≡◌, ℕ, zero, suc, ◌+◌, ◌-◌, ◌*◌, ◌%◌, ◌^◌, ◌<◌, ◌≤◌, List, ◌∷◌, length, take, drop, ◌++◌, bit_xor, refl, sym, ap, subst, ◌∙◌}
use Rattle.std.proofs.Common.{arith, inl, inr, length-drop}
use Rattle.std.proofs.lemmas.Bool.{cases_lt}
use Rattle.std.proofs.lemmas.List.{get_or-take, get_or-drop, ext_get_or}
use Rattle.std.specs.Int.Bits.{xor_mod, xor_assoc, xor_self, xor_zero_r}
use Rattle.block_pair.specs.Words.{IsWord}
use Rattle.block_pair.specs.Pair.{AreInverse}
use Rattle.block_pair.specs.Each.{each_take, each_drop}
use Rattle.key_wrap_core.specs.Words.{AreWords, at, word_bytes, spelled, joined}
use Rattle.key_wrap_core.specs.Tape.{Tape, Wraps}
use Rattle.key_wrap_core.specs.Registers.{Registers}
use Rattle.key_wrap_core.proofs.Spelling.{joined_low, joined_same, joined_block, word_place, word_front, spelled_same, length-spelled}

-- xor with one number twice gives the number back
pub xored_back : (a s : ℕ) → bit_xor (bit_xor a s) s ≡ a
xored_back a s = xor_assoc a s s ∙ ap (bit_xor a) (xor_self s) ∙ xor_zero_r a

-- a word is fixed by the low 64 bits of it xor t
xored_same : (a b t : ℕ) → IsWord a → IsWord b → bit_xor a t % 2 ^ 64 ≡ bit_xor b t % 2 ^ 64 → a ≡ b
xored_same a b t ha hb e =
    let s : ℕ = t % 2 ^ 64 in
    let la : a % 2 ^ 64 ≡ a = omega arith in
    let lb : b % 2 ^ 64 ≡ b = omega arith in
    let low : bit_xor a s ≡ bit_xor b s = ap (λ (u : ℕ). bit_xor u s) (sym la) ∙ sym (xor_mod a t 64) ∙ e ∙ xor_mod b t 64 ∙ ap (λ (u : ℕ). bit_xor u s) lb in
    sym (xored_back a s) ∙ ap (λ (u : ℕ). bit_xor u s) low ∙ xored_back b s

-- a block has one form (b xor t) | y
xored_joined : (b y c z t : ℕ) → IsWord b → IsWord y → IsWord c → IsWord z
    → joined (bit_xor b t) y ≡ joined (bit_xor c t) z → (b ≡ c) × (y ≡ z)
xored_joined b y c z t hb hy hc hz e =
    let low = joined_low (bit_xor b t) y (bit_xor c t) z e in
    (xored_same b c t hb hc low.0, omega (arith, low.1))

-- E takes two blocks to one only if they are one
encrypted_same : (E D : List ℕ → List ℕ) (a x b y : ℕ) → AreInverse E D → IsWord a → IsWord x → IsWord b → IsWord y
    → E (joined a x) ≡ E (joined b y) → (a ≡ b) × (x ≡ y)
encrypted_same E D a x b y law ha hx hb hy e =
    joined_same a x b y ha hx hb hy
    (sym (law.undone (joined a x) (joined_block a x)) ∙ ap D e ∙ law.undone (joined b y) (joined_block b y))

-- the equation of step t + 1, with no `-`
pub tape_step : {E : List ℕ → List ℕ} {n : ℕ} {x a : List ℕ} → Tape E n x a → (t : ℕ) → t < 6 * n
    → E (joined (at a t) (at x t)) ≡ joined (bit_xor (at a (t + 1)) (t + 1)) (at x (n + t))
tape_step {E = E} {n = n} {x = x} {a = a} tape t h =
    let before : t + 1 - 1 ≡ t = omega arith in
    let after : n + (t + 1) - 1 ≡ n + t = omega arith in
    rw (before, after) at (tape.step (t + 1) (omega arith) (omega arith))

-- Two tapes with one front, up to step t.
record SameUpTo (n t : ℕ) (x a x' a' : List ℕ) : Type 0 where
  value : at a t ≡ at a' t
  registers : (i : ℕ) → i < n + t → at x i ≡ at x' i

-- Two tapes with one back, down to step t.
record SameFrom (n t : ℕ) (x a x' a' : List ℕ) : Type 0 where
  value : at a t ≡ at a' t
  registers : (i : ℕ) → t ≤ i → i < 7 * n → at x i ≡ at x' i

module _ (E D : List ℕ → List ℕ) (n : ℕ) (x a x' a' : List ℕ) (one : Tape E n x a) (other : Tape E n x' a') where
  same_forward : SameUpTo n 0 x a x' a' → (t : ℕ) → t ≤ 6 * n → SameUpTo n t x a x' a'
  same_forward start zero h = start
  same_forward start (suc t) h =
      let so_far = same_forward start t (omega arith) in
      let r : at x t ≡ at x' t = so_far.registers t (omega arith) in
      let v : at a t ≡ at a' t = so_far.value in
      let e1 = tape_step one t (omega arith) in
      let e2 = tape_step other t (omega arith) in
      let blocks : E (joined (at a t) (at x t)) ≡ E (joined (at a' t) (at x' t)) = rw (v, r) refl in
      let next = xored_joined (at a (t + 1)) (at x (n + t)) (at a' (t + 1)) (at x' (n + t)) (t + 1)
      (word_place a one.words_a (t + 1)) (word_place x one.words_x (n + t)) (word_place a' other.words_a (t + 1)) (word_place x' other.words_x (n + t))
      (sym e1 ∙ blocks ∙ e2) in
      let s : t + 1 ≡ suc t = omega arith in
      record {
        value = rw s at next.0;
        registers = λ i below. elim (cases_lt i (n + t)) [
          | inl less ↦ so_far.registers i less
          | inr rest ↦ let last : i ≡ n + t = omega arith in rw last next.1
        ];
      }

  same_backward : AreInverse E D → SameFrom n (6 * n) x a x' a' → (k t : ℕ) → t + k ≡ 6 * n → SameFrom n t x a x' a'
  same_backward law start zero t h = let top : t ≡ 6 * n = omega arith in rw top start
  same_backward law start (suc k) t h =
      let so_far = same_backward law start k (t + 1) (omega arith) in
      let r : at x (n + t) ≡ at x' (n + t) = so_far.registers (n + t) (omega arith) (omega arith) in
      let v : at a (t + 1) ≡ at a' (t + 1) = so_far.value in
      let e1 = tape_step one t (omega arith) in
      let e2 = tape_step other t (omega arith) in
      let blocks : joined (bit_xor (at a (t + 1)) (t + 1)) (at x (n + t)) ≡ joined (bit_xor (at a' (t + 1)) (t + 1)) (at x' (n + t)) = rw (v, r) refl in
      let next = encrypted_same E D (at a t) (at x t) (at a' t) (at x' t) law
      (word_place a one.words_a t) (word_place x one.words_x t) (word_place a' other.words_a t) (word_place x' other.words_x t)
      (e1 ∙ blocks ∙ sym e2) in
      record {
        value = next.0;
        registers = λ i from below. elim (cases_lt t i) [
          | inl more ↦ so_far.registers i (omega arith) below
          | inr rest ↦ let first : i ≡ t = omega arith in rw first next.1
        ];
      }

pub wraps_iv : {E : List ℕ → List ℕ} {iv : ℕ} {P C : List ℕ} → Wraps E iv P C → IsWord iv
wraps_iv w = rw w.initial at (word_place w.a w.tape.words_a 0)

pub wraps_key : {E : List ℕ → List ℕ} {iv : ℕ} {P C : List ℕ} → Wraps E iv P C → AreWords P
wraps_key {P = P} w = let K : List ℕ → Type 0 = λ ws. AreWords ws in subst K w.key (each_take IsWord (length P) w.x w.tape.words_x)

pub wraps_text : {E : List ℕ → List ℕ} {iv : ℕ} {P C : List ℕ} → Wraps E iv P C → AreWords C
wraps_text {P = P} w =
    let K : List ℕ → Type 0 = λ ws. AreWords ws in
    subst K w.text (word_place w.a w.tape.words_a (6 * length P), each_drop IsWord (6 * length P) w.x w.tape.words_x)

pub wraps_length : {E : List ℕ → List ℕ} {iv : ℕ} {P C : List ℕ} → Wraps E iv P C → length C ≡ length P + 1
wraps_length {P = P} w = omega (arith, ap length w.text, length-drop (6 * length P) w.x, w.tape.length_x)

-- the initial value and the key data fix the text
pub wraps_forward : {E : List ℕ → List ℕ} {iv : ℕ} {P C C' : List ℕ} → Wraps E iv P C → Wraps E iv P C' → C ≡ C'
wraps_forward {E = E} {P = P} w w' =
    let n : ℕ = length P in
    let front : (i : ℕ) → i < n → at w.x i ≡ at w'.x i = λ i h.
    sym (get_or-take n w.x i 0 h) ∙ ap (λ (ws : List ℕ). at ws i) (w.key ∙ sym w'.key) ∙ get_or-take n w'.x i 0 h in
    let start : SameUpTo n 0 w.x w.a w'.x w'.a = record { value = w.initial ∙ sym w'.initial; registers = λ i h. front i (omega arith) } in
    let all = same_forward E E n w.x w.a w'.x w'.a w.tape w'.tape start (6 * n) (omega arith) in
    let same : w.x ≡ w'.x = ext_get_or 0 w.x w'.x (w.tape.length_x ∙ sym w'.tape.length_x) (λ i h. all.registers i (omega (arith, w.tape.length_x))) in
    sym w.text ∙ ap (λ (v : ℕ). v ∷ drop (6 * n) w.x) all.value ∙ ap (λ (r : List ℕ). at w'.a (6 * n) ∷ drop (6 * n) r) same ∙ w'.text

-- the text fixes the initial value and the key data
pub wraps_backward : {E D : List ℕ → List ℕ} {iv iv' : ℕ} {P P' C : List ℕ} → AreInverse E D → Wraps E iv P C → Wraps E iv' P' C → (iv ≡ iv') × (P ≡ P')
wraps_backward {E = E} {D = D} {P = P} {P' = P'} law w w' =
    let n : ℕ = length P in
    let sizes : length P' ≡ n = omega (arith, wraps_length w, wraps_length w') in
    let tape' : Tape E n w'.x w'.a = subst (λ (m : ℕ). Tape E m w'.x w'.a) sizes w'.tape in
    let text' : at w'.a (6 * n) ∷ drop (6 * n) w'.x ≡ at w.a (6 * n) ∷ drop (6 * n) w.x =
    subst (λ (m : ℕ). at w'.a (6 * m) ∷ drop (6 * m) w'.x ≡ at w.a (6 * n) ∷ drop (6 * n) w.x) sizes (w'.text ∙ sym w.text) in
    let value : at w.a (6 * n) ≡ at w'.a (6 * n) = cc text' in
    let rests : drop (6 * n) w.x ≡ drop (6 * n) w'.x = cc text' in
    let back : (i : ℕ) → 6 * n ≤ i → at w.x i ≡ at w'.x i = λ i h.
    let place : 6 * n + (i - 6 * n) ≡ i = omega arith in
    subst (λ (j : ℕ). at w.x j ≡ at w'.x j) place
    (sym (get_or-drop (6 * n) w.x (i - 6 * n) 0) ∙ ap (λ (ws : List ℕ). at ws (i - 6 * n)) rests ∙ get_or-drop (6 * n) w'.x (i - 6 * n) 0) in
    let start : SameFrom n (6 * n) w.x w.a w'.x w'.a = record { value = value; registers = λ i h below. back i h } in
    let all = same_backward E D n w.x w.a w'.x w'.a w.tape tape' law start (6 * n) 0 (omega arith) in
    let same : w.x ≡ w'.x = ext_get_or 0 w.x w'.x (w.tape.length_x ∙ sym tape'.length_x)
    (λ i h. all.registers i (omega arith) (omega (arith, w.tape.length_x))) in (
      sym w.initial ∙ all.value ∙ w'.initial,
      sym w.key ∙ ap (take n) same ∙ subst (λ (m : ℕ). take m w'.x ≡ P') sizes w'.key,
    )

-- words before and after, as one buffer
pub registers_of : {E : List ℕ → List ℕ} {iv : ℕ} {P C : List ℕ} → Wraps E iv P C → Registers E (spelled (iv ∷ P)) (spelled C)
registers_of {iv = iv} {P = P} {C = C} w = record { iv = iv; P = P; C = C; key_words = refl; text_words = refl; wraps = w }

-- the words of a wrapping with this initial value, for bytes of key data and of text
pub record WrapsBytes (E : List ℕ → List ℕ) (iv : ℕ) (key text : List ℕ) : Type 0 where
  pub P : List ℕ
  pub C : List ℕ
  pub key_words : spelled P ≡ key
  pub text_words : spelled C ≡ text
  pub wraps : Wraps E iv P C

-- a buffer that begins with the bytes of a word has it as initial value
pub wraps_of : {E : List ℕ → List ℕ} (iv : ℕ) (key text : List ℕ) → IsWord iv → Registers E (word_bytes iv ++ key) text → WrapsBytes E iv key text
wraps_of {E = E} iv key text word r =
    let front = word_front r.iv iv (spelled r.P) key (wraps_iv r.wraps) word r.key_words in
    record {
      P = r.P;
      C = r.C;
      key_words = front.1;
      text_words = r.text_words;
      wraps = subst (λ (v : ℕ). Wraps E v r.P r.C) front.0 r.wraps;
    }

pub registers_length : {E : List ℕ → List ℕ} {before after : List ℕ} → Registers E before after → length after ≡ length before
registers_length r =
    omega (arith, ap length r.key_words, ap length r.text_words, length-spelled (r.iv ∷ r.P), length-spelled r.C, wraps_length r.wraps)

-- the bytes before fix the bytes after
pub registers_forward : {E : List ℕ → List ℕ} {before after after' : List ℕ} → Registers E before after → Registers E before after' → after ≡ after'
registers_forward {E = E} r s =
    let same = spelled_same (r.iv ∷ r.P) (s.iv ∷ s.P) (wraps_iv r.wraps, wraps_key r.wraps) (wraps_iv s.wraps, wraps_key s.wraps)
    (r.key_words ∙ sym s.key_words) in
    let v : s.iv ≡ r.iv = cc same in
    let P : s.P ≡ r.P = cc same in
    let moved : Wraps E r.iv r.P s.C = subst (λ (u : ℕ). Wraps E u r.P s.C) v (subst (λ (ws : List ℕ). Wraps E s.iv ws s.C) P s.wraps) in
    sym r.text_words ∙ ap spelled (wraps_forward r.wraps moved) ∙ s.text_words

-- the bytes after fix the bytes before
pub registers_backward : {E D : List ℕ → List ℕ} {before before' after : List ℕ} → AreInverse E D → Registers E before after → Registers E before' after
    → before ≡ before'
registers_backward {E = E} {D = D} law r s =
    let same : s.C ≡ r.C = spelled_same s.C r.C (wraps_text s.wraps) (wraps_text r.wraps) (s.text_words ∙ sym r.text_words) in
    let moved : Wraps E s.iv s.P r.C = subst (λ (ws : List ℕ). Wraps E s.iv s.P ws) same s.wraps in
    let ends = wraps_backward law r.wraps moved in
    sym r.key_words ∙ ap (λ (u : ℕ). spelled (u ∷ r.P)) ends.0 ∙ ap (λ (ws : List ℕ). spelled (s.iv ∷ ws)) ends.1 ∙ s.key_words
