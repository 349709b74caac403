-- The places of a tape's words in the registers: after t steps each register holds the word, among places t to
-- t + n - 1, whose place is the register's number modulo n (places and registers counted from 0).
use Rattle.std.proofs.Common.{◌≡◌, ◌≢◌, ℕ, ◌+◌, ◌*◌, ◌/◌, ◌%◌, ◌≤◌, ◌<◌, List, ◌++◌, length, take, drop, set, bit_xor, refl, sym, ap}
use Rattle.std.proofs.Common.{◌∙◌, arith, inl, inr, length-set, get_or-set_other, get_or-set_same}
use Rattle.std.proofs.lemmas.Bool.{cases_lt}
use Rattle.std.proofs.Math.Nat.{div-add-mod, add-mod_left, mul-le-mul_left, mod-lt}
use Rattle.block_pair.specs.Words.{IsWord}
use Rattle.key_wrap_core.specs.Words.{AreWords, at, word_bytes, spelled, joined}
use Rattle.key_wrap_core.proofs.Registering.{each_set, register_bytes, register_set}

-- A tape on which the steps s + 1 to e hold.
pub record Part (E : List ℕ → List ℕ) (n s e : ℕ) (x a : List ℕ) : Type 0 where
  pub length_x : length x ≡ 7 * n
  pub length_a : length a ≡ 6 * n + 1
  pub words_x : AreWords x
  pub words_a : AreWords a
  pub step : (t : ℕ) → s ≤ t → t < e → E (joined (at a t) (at x t)) ≡ joined (bit_xor (at a (t + 1)) (t + 1)) (at x (n + t))

-- After t steps the register p modulo n holds the word at place p, for each place from t to t + n - 1.
abbrev pub Lie : (n t : ℕ) (x R : List ℕ) → Type 0
Lie n t x R = (p : ℕ) → t ≤ p → p < t + n → at R (p % n) ≡ at x p

-- The machine after t steps of a tape: A is the tape's, and each register holds the word whose place falls to it.
pub record After (n t : ℕ) (x a : List ℕ) (A : ℕ) (registers : List ℕ) : Type 0 where
  pub R : List ℕ
  pub size : length R ≡ n
  pub bytes : spelled R ≡ registers
  pub value : at a t ≡ A
  pub lie : Lie n t x R

-- two places less than n apart lie in two registers
pub places_apart : (n t p : ℕ) → t < p → p < t + n → p % n ≢ t % n
places_apart n t p more less same =
    let hp = div-add-mod p n in
    let ht = div-add-mod t n in
    elim (cases_lt (t / n) (p / n)) [
      | inl above ↦ absurd (omega (arith, mul-le-mul_left n above))
      | inr below ↦ absurd (omega (arith, mul-le-mul_left n below))
    ]

-- the word at place t makes room for the word at place n + t
lie_next : (n t w : ℕ) (x R : List ℕ) → 0 < n → n + t < length x → length R ≡ n → Lie n t x R → Lie n (t + 1) (set x (n + t) w) (set R (t % n) w)
lie_next n t w x R some room size lie p from below =
    elim (cases_lt p (n + t)) [
      | inl less ↦
          let apart : p % n ≢ t % n = places_apart n t p (omega arith) (omega arith) in
          get_or-set_other R (t % n) (p % n) w 0 apart ∙ lie p (omega arith) (omega arith) ∙ sym (get_or-set_other x (n + t) p w 0 (omega arith))
      | inr more ↦
          let last : p ≡ n + t = omega arith in
          let inside : t % n < length R = omega (arith, mod-lt t some) in
          rw (last, add-mod_left n t, get_or-set_same R (t % n) w 0 inside, get_or-set_same x (n + t) w 0 room) refl
    ]

-- the word at place n + t makes room for the word at place t
lie_before : (n t w : ℕ) (x R : List ℕ) → 0 < n → t < length x → length R ≡ n → Lie n (t + 1) x R → Lie n t (set x t w) (set R (t % n) w)
lie_before n t w x R some room size lie p from below =
    elim (cases_lt t p) [
      | inl more ↦
          let apart : p % n ≢ t % n = places_apart n t p (omega arith) (omega arith) in
          get_or-set_other R (t % n) (p % n) w 0 apart ∙ lie p (omega arith) (omega arith) ∙ sym (get_or-set_other x t p w 0 (omega arith))
      | inr less ↦
          let first : p ≡ t = omega arith in
          let inside : t % n < length R = omega (arith, mod-lt t some) in
          rw (first, get_or-set_same R (t % n) w 0 inside, get_or-set_same x t w 0 room) refl
    ]

-- the bytes with one register of them replaced
abbrev pub with_register : (i : ℕ) (registers register : List ℕ) → List ℕ
with_register i registers register = take (8 * i) registers ++ (register ++ drop 8 (drop (8 * i) registers))

-- the bytes of one register
abbrev pub register_of : (i : ℕ) (registers : List ℕ) → List ℕ
register_of i registers = take 8 (drop (8 * i) registers)

-- the register that is written next holds the word at place t, and the one that was written last that at n + t
pub after_reads : {n t p A : ℕ} {x a registers : List ℕ} → 0 < n → t ≤ p → p < t + n → After n t x a A registers
    → register_of (p % n) registers ≡ word_bytes (at x p)
after_reads {n = n} {p = p} some from below h =
    let inside : p % n < length h.R = omega (arith, mod-lt p some, h.size) in
    ap (λ (bs : List ℕ). register_of (p % n) bs) (sym h.bytes) ∙ register_bytes h.R (p % n) inside ∙ ap word_bytes (h.lie p from below)

pub after_next : {n t A : ℕ} (w v : ℕ) {x a registers : List ℕ} → 0 < n → n + t < length x → t + 1 < length a
    → After n t x a A registers → After n (t + 1) (set x (n + t) w) (set a (t + 1) v) v (with_register (t % n) registers (word_bytes w))
after_next {n = n} {t = t} w v {x = x} {a = a} {registers = registers} some room_x room_a h =
    let inside : t % n < length h.R = omega (arith, mod-lt t some, h.size) in
    record {
      R = set h.R (t % n) w;
      size = length-set h.R (t % n) w ∙ h.size;
      bytes = sym (register_set h.R (t % n) w inside) ∙ ap (λ (bs : List ℕ). with_register (t % n) bs (word_bytes w)) h.bytes;
      value = get_or-set_same a (t + 1) v 0 room_a;
      lie = lie_next n t w x h.R some room_x h.size h.lie;
    }

pub after_before : {n t A : ℕ} (w v : ℕ) {x a registers : List ℕ} → 0 < n → t < length x → t < length a
    → After n (t + 1) x a A registers → After n t (set x t w) (set a t v) v (with_register (t % n) registers (word_bytes w))
after_before {n = n} {t = t} w v {x = x} {a = a} {registers = registers} some room_x room_a h =
    let inside : t % n < length h.R = omega (arith, mod-lt t some, h.size) in
    record {
      R = set h.R (t % n) w;
      size = length-set h.R (t % n) w ∙ h.size;
      bytes = sym (register_set h.R (t % n) w inside) ∙ ap (λ (bs : List ℕ). with_register (t % n) bs (word_bytes w)) h.bytes;
      value = get_or-set_same a t v 0 room_a;
      lie = lie_before n t w x h.R some room_x h.size h.lie;
    }

pub part_next : {E : List ℕ → List ℕ} {n s t : ℕ} (w v : ℕ) {x a : List ℕ} → 0 < n → t < 6 * n → IsWord w → IsWord v
    → E (joined (at a t) (at x t)) ≡ joined (bit_xor v (t + 1)) w → Part E n s t x a → Part E n s (t + 1) (set x (n + t) w) (set a (t + 1) v)
part_next {n = n} {t = t} w v {x = x} {a = a} some inside word_w word_v one h =
    let x' : List ℕ = set x (n + t) w in
    let a' : List ℕ = set a (t + 1) v in
    let other_x : (p : ℕ) → p < n + t → at x' p ≡ at x p = λ p below. get_or-set_other x (n + t) p w 0 (omega arith) in
    let other_a : (p : ℕ) → p < t + 1 → at a' p ≡ at a p = λ p below. get_or-set_other a (t + 1) p v 0 (omega arith) in
    record {
      length_x = length-set x (n + t) w ∙ h.length_x;
      length_a = length-set a (t + 1) v ∙ h.length_a;
      words_x = each_set IsWord x (n + t) w h.words_x word_w;
      words_a = each_set IsWord a (t + 1) v h.words_a word_v;
      step = λ u from below. elim (cases_lt u t) [
        | inl less ↦ rw (other_a u (omega arith), other_x u (omega arith), other_a (u + 1) (omega arith), other_x (n + u) (omega arith)) (h.step u from less)
        | inr more ↦
            let last : u ≡ t = omega arith in
            let top_x : at x' (n + t) ≡ w = get_or-set_same x (n + t) w 0 (omega (arith, h.length_x)) in
            let top_a : at a' (t + 1) ≡ v = get_or-set_same a (t + 1) v 0 (omega (arith, h.length_a)) in
            rw (last, other_a t (omega arith), other_x t (omega arith), top_a, top_x) one
      ];
    }

pub part_before : {E : List ℕ → List ℕ} {n t e : ℕ} (w v : ℕ) {x a : List ℕ} → 0 < n → t < 6 * n → IsWord w → IsWord v
    → E (joined v w) ≡ joined (bit_xor (at a (t + 1)) (t + 1)) (at x (n + t)) → Part E n (t + 1) e x a → Part E n t e (set x t w) (set a t v)
part_before {n = n} {t = t} w v {x = x} {a = a} some inside word_w word_v one h =
    let x' : List ℕ = set x t w in
    let a' : List ℕ = set a t v in
    let other_x : (p : ℕ) → t < p → at x' p ≡ at x p = λ p above. get_or-set_other x t p w 0 (omega arith) in
    let other_a : (p : ℕ) → t < p → at a' p ≡ at a p = λ p above. get_or-set_other a t p v 0 (omega arith) in
    record {
      length_x = length-set x t w ∙ h.length_x;
      length_a = length-set a t v ∙ h.length_a;
      words_x = each_set IsWord x t w h.words_x word_w;
      words_a = each_set IsWord a t v h.words_a word_v;
      step = λ u from below. elim (cases_lt t u) [
        | inl more ↦ rw (other_a u more, other_x u more, other_a (u + 1) (omega arith), other_x (n + u) (omega arith)) (h.step u (omega arith) below)
        | inr less ↦
            let first : u ≡ t = omega arith in
            let low_x : at x' t ≡ w = get_or-set_same x t w 0 (omega (arith, h.length_x)) in
            let low_a : at a' t ≡ v = get_or-set_same a t v 0 (omega (arith, h.length_a)) in
            rw (first, other_a (t + 1) (omega arith), other_x (n + t) (omega arith), low_a, low_x) one
      ];
    }
