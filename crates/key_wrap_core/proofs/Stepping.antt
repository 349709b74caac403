-- What a step of a wrapping and a step undone share: the tape and the registers.
use Rattle.std.proofs.Common.{◌≡◌, ℕ, ◌+◌, ◌-◌, ◌*◌, ◌/◌, ◌%◌, ◌≤◌, ◌<◌, List, ◌∷◌, ◌++◌, length, replicate, sym, ap}
use Rattle.std.proofs.Common.{◌∙◌, arith, length-append}
use Rattle.std.proofs.lemmas.List.{length-replicate, get_or-append_right, get_or_append_left}
use Rattle.std.proofs.Math.Seq.{get_or-append_seam}
use Rattle.std.proofs.Math.Nat.{mul-le-mul_left, mul-add-mod_self_left, mod-eq_of_lt, div-add-mod}
use Rattle.std.specs.List.{AllByRecursion}
use Rattle.block_pair.specs.Words.{IsByte, IsWord}
use Rattle.block_pair.specs.Each.{each_append}
use Rattle.key_wrap_core.specs.Words.{at}
use Rattle.key_wrap_core.specs.BlockCalls.{block_calls}
use Rattle.key_wrap_core.specs.Steps.{TapeBetween, HoldPlaces}
use Rattle.key_wrap_core.proofs.Spelling.{words_of_bytes, length-spelled}
use Rattle.key_wrap_core.proofs.Registering.{each_replicate}
use Rattle.key_wrap_core.proofs.Places.{Part, After}

pub part_of : {E : List ℕ → List ℕ} {n s e : ℕ} {x a : List ℕ} → TapeBetween E n s e x a → Part E n s e x a
part_of {n = n} h = record {
  length_x = h.length_x;
  length_a = h.length_a;
  words_x = h.words_x;
  words_a = h.words_a;
  step = λ u from below.
      let again : u + 1 - 1 ≡ u = omega arith in
      let place : n + (u + 1) - 1 ≡ n + u = omega arith in
      rw (again, place) at (h.step (u + 1) (omega arith) (omega arith));
}

pub tape_of : {E : List ℕ → List ℕ} {n s e : ℕ} {x a : List ℕ} → Part E n s e x a → TapeBetween E n s e x a
tape_of {n = n} h = record {
  length_x = h.length_x;
  length_a = h.length_a;
  words_x = h.words_x;
  words_a = h.words_a;
  step = λ u from to.
      let again : u - 1 + 1 ≡ u = omega arith in
      let place : n + (u - 1) ≡ n + u - 1 = omega arith in
      rw (again, place) at (h.step (u - 1) (omega arith) (omega arith));
}

pub held : {n t A : ℕ} {x a registers : List ℕ} → After n t x a A registers → HoldPlaces n t x registers
held h = record { R = h.R; size = h.size; words = h.bytes; lie = h.lie }

pub after : {n t A : ℕ} {x a registers : List ℕ} → HoldPlaces n t x registers → at a t ≡ A → After n t x a A registers
after h value = record { R = h.R; size = h.size; bytes = h.words; value = value; lie = h.lie }

-- place n * j + d lies in register d
pub turn : (n j d : ℕ) → d < n → (n * j + d) % n ≡ d
turn n j d below = mul-add-mod_self_left n j d ∙ mod-eq_of_lt below

-- a state between two passes over the registers, on a tape of which no step need hold
pub record Between (E : List ℕ → List ℕ) (n t A : ℕ) (registers : List ℕ) : Type 0 where
  pub x : List ℕ
  pub a : List ℕ
  pub tape : TapeBetween E n t t x a
  pub state : After n t x a A registers

pub no_step : (E : List ℕ → List ℕ) (n j A : ℕ) (registers : List ℕ) → j ≤ 6 → IsWord A → length registers ≡ 8 * n → AllByRecursion IsByte registers
    → Between E n (n * j) A registers
no_step E n j A registers passes word_A size bytes =
    let words = words_of_bytes n registers size bytes in
    let R : List ℕ = words.ws in
    let count : length R ≡ n = omega (arith, ap length words.bytes, length-spelled R) in
    let s : ℕ = n * j in
    let within : n * j ≤ n * 6 = mul-le-mul_left n passes in
    let k : ℕ = 6 * n - s in
    let low : List ℕ = replicate s 0 in
    let high : List ℕ = replicate k 0 in
    let x : List ℕ = low ++ (R ++ high) in
    let a : List ℕ = low ++ (A ∷ high) in
    let lead : length low ≡ s = length-replicate {A = ℕ} s 0 in
    let trail : length high ≡ k = length-replicate {A = ℕ} k 0 in
    let state : After n s x a A registers = record {
      R = R;
      size = count;
      bytes = words.bytes;
      value = ap (λ (i : ℕ). at a i) (sym lead) ∙ get_or-append_seam low A high 0;
      lie = λ p from below.
          let d : ℕ = p - s in
          let place : p ≡ n * j + d = omega arith in
          let first : at x p ≡ at (R ++ high) d = get_or-append_right low (R ++ high) s p 0 lead from in
          let own : at (R ++ high) d ≡ at R d = get_or_append_left R high 0 d (omega arith) in
          ap (λ (i : ℕ). at R (i % n)) place ∙ ap (λ (i : ℕ). at R i) (turn n j d (omega arith)) ∙ sym (first ∙ own);
    } in
    record {
      x = x;
      a = a;
      tape = record {
        length_x = omega (arith, length-append low (R ++ high), length-append R high);
        length_a = omega (arith, length-append low (A ∷ high));
        words_x = each_append IsWord low (R ++ high) (each_replicate IsWord s 0 (omega arith))
            (each_append IsWord R high words.words (each_replicate IsWord k 0 (omega arith)));
        words_a = each_append IsWord low (A ∷ high) (each_replicate IsWord s 0 (omega arith)) (word_A, each_replicate IsWord k 0 (omega arith));
        step = λ u from to. absurd (omega arith);
      };
      state = state;
    }

-- the register after the register of place t, and before it
pub after_turn : (n t : ℕ) → 0 < n → (t % n + 1) % n ≡ (t + 1) % n
after_turn n t some =
    let whole : t + 1 ≡ n * (t / n) + (t % n + 1) = omega (arith, div-add-mod t n) in
    sym (ap (λ (k : ℕ). k % n) whole ∙ mul-add-mod_self_left n (t / n) (t % n + 1))

pub before_turn : (n t : ℕ) → 0 < n → (n + t % n - 1) % n ≡ (n + t - 1) % n
before_turn n t some =
    let whole : n + t - 1 ≡ n * (t / n) + (n + t % n - 1) = omega (arith, div-add-mod t n) in
    sym (ap (λ (k : ℕ). k % n) whole ∙ mul-add-mod_self_left n (t / n) (n + t % n - 1))

-- one word has one step
pub one_call : (len : ℕ) → len ≡ 8 → block_calls (8 + len) ≡ 1
one_call len e = ap (λ (k : ℕ). block_calls (8 + k)) e

-- and more words six each
pub more_calls : (len : ℕ) → 16 ≤ len → block_calls (8 + len) ≡ 6 * (len / 8)
more_calls len more = grind arith
