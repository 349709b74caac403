-- One step of a wrapping, none, and all of them.
use Rattle.std.proofs.Common.{◌≡◌, ℕ, ◌+◌, ◌*◌, ◌/◌, ◌%◌, ◌≤◌, ◌<◌, List, ◌∷◌, ◌++◌, length, take, drop, set, bit_xor, refl, sym, ap}
use Rattle.std.proofs.Common.{subst, ◌∙◌, arith, inl, inr, length-append, length-drop, length-take, length-set, get_or-set_other}
use Rattle.std.proofs.lemmas.Bool.{cases_lt}
use Rattle.std.proofs.lemmas.List.{get_or-take, get_or-drop, ext_get_or, take-append-drop, take_all}
use Rattle.std.proofs.Math.Nat.{mod-eq_of_lt}
use Rattle.std.specs.List.{AllByRecursion}
use borrow.Rule.Slice.PartMut.{put_mid}
use Rattle.byteorder.specs.Endian.{big_from}
use Rattle.block_pair.specs.Each.{each_take, each_drop}
use Rattle.block_pair.specs.Pair.{AreInverse}
use Rattle.block_pair.specs.Words.{IsByte, IsWord, IsBlock}
use Rattle.key_wrap_core.specs.Words.{at, word_bytes, spelled, joined}
use Rattle.key_wrap_core.specs.BlockCalls.{block_calls}
use Rattle.key_wrap_core.specs.Tape.{Tape}
use Rattle.key_wrap_core.specs.Registers.{Registers}
use Rattle.key_wrap_core.specs.PaddedRegisters.{PaddedRegisters}
use Rattle.key_wrap_core.specs.Steps.{WrapSteps, WrapState}
use Rattle.key_wrap_core.proofs.Spelling.{word_of_bytes, joined_block, length-spelled, length-word_bytes}
use Rattle.key_wrap_core.proofs.Tapes.{xored_back}
use Rattle.key_wrap_core.proofs.Registering.{first_eight, block_split}
use Rattle.key_wrap_core.proofs.PaddedForm.{many_registers, one_block}
use Rattle.key_wrap_core.proofs.Places.{Part, After, register_of, with_register, part_next, after_next, after_reads}
use Rattle.key_wrap_core.proofs.Stepping.{part_of, tape_of, held, after, turn, Between, no_step, one_call, more_calls}

-- a word past the first n leaves these as they are
take_before : (n p w : ℕ) (x : List ℕ) → n ≤ p → take n (set x p w) ≡ take n x
take_before n p w x past = ext_get_or 0 (take n (set x p w)) (take n x) (omega (arith, length-take n (set x p w), length-take n x, length-set x p w))
    (λ i below.
    let less : i < n = omega (arith, length-take n (set x p w)) in
    get_or-take n (set x p w) i 0 less ∙ get_or-set_other x p i w 0 (omega arith) ∙ sym (get_or-take n x i 0 less))

-- as many registers as their bytes say
pub count_of : {E : List ℕ → List ℕ} {iv t : ℕ} {key registers block : List ℕ} → (h : WrapSteps E iv key t registers block) → length registers / 8 ≡ h.n
count_of h = omega (arith, ap length h.hold.words, length-spelled h.hold.R, h.hold.size)

-- what is to be encrypted is a block
pub under_block : {E : List ℕ → List ℕ} {iv t : ℕ} {key registers block : List ℕ} → WrapSteps E iv key t registers block → IsBlock block
under_block {t = t} h = subst (λ (b : List ℕ). IsBlock b) h.block_words (joined_block (at h.a t) (at h.x t))

steps_later : {E : List ℕ → List ℕ} {iv t : ℕ} {key registers before : List ℕ} (v : ℕ) (register : List ℕ)
    → (h : WrapSteps E iv key t registers before) → 0 < h.n → t < 6 * h.n → IsWord v → length register ≡ 8 → AllByRecursion IsByte register
    → E before ≡ word_bytes (bit_xor v (t + 1)) ++ register
    → WrapSteps E iv key (t + 1) (with_register (t % h.n) registers register)
    (word_bytes v ++ register_of ((t + 1) % h.n) (with_register (t % h.n) registers register))
steps_later {E = E} {iv = iv} {t = t} {key = key} {registers = registers} {before = before} v register h some inside word_v eight bytes step =
    let n : ℕ = h.n in
    let new = word_of_bytes register eight bytes in
    let w : ℕ = new.w in
    let x : List ℕ = set h.x (n + t) w in
    let a : List ℕ = set h.a (t + 1) v in
    let one : E (joined (at h.a t) (at h.x t)) ≡ joined (bit_xor v (t + 1)) w = rw (h.block_words, new.bytes) step in
    let part : Part E n 0 (t + 1) x a = part_next w v some inside new.word word_v one (part_of h.tape) in
    let now : After n t h.x h.a (at h.a t) registers = after h.hold refl in
    let later : After n (t + 1) x a v (with_register (t % n) registers register) =
    subst (λ (bs : List ℕ). After n (t + 1) x a v (with_register (t % n) registers bs)) new.bytes
    (after_next w v some (omega (arith, h.tape.length_x)) (omega (arith, h.tape.length_a)) now) in
    let reads = after_reads some (let same : t + 1 ≤ t + 1 = omega arith in same) (omega arith) later in
    record {
      n = n;
      x = x;
      a = a;
      tape = tape_of part;
      initial = get_or-set_other h.a (t + 1) 0 v 0 (omega arith) ∙ h.initial;
      key_words = ap spelled (take_before n (n + t) w h.x (omega arith)) ∙ h.key_words;
      hold = held later;
      block_words = rw (later.value, reads) refl;
    }

-- the step with as many registers as the bytes say
steps_next : {E : List ℕ → List ℕ} {iv t : ℕ} {key registers before : List ℕ} (v : ℕ) (register : List ℕ)
    → WrapSteps E iv key t registers before → 8 ≤ length registers → t < 6 * (length registers / 8) → IsWord v → length register ≡ 8
    → AllByRecursion IsByte register → E before ≡ word_bytes (bit_xor v (t + 1)) ++ register
    → let n = length registers / 8 in WrapSteps E iv key (t + 1) (with_register (t % n) registers register)
    (word_bytes v ++ register_of ((t + 1) % n) (with_register (t % n) registers register))
steps_next {E = E} {iv = iv} {t = t} {key = key} {registers = registers} v register h some inside word eight bytes step =
    let n : ℕ = length registers / 8 in
    let count : n ≡ h.n = count_of h in
    subst (λ (m : ℕ). WrapSteps E iv key (t + 1) (with_register (t % m) registers register)
    (word_bytes v ++ register_of ((t + 1) % m) (with_register (t % m) registers register))) (sym count)
    (steps_later v register h (omega arith) (omega arith) word eight bytes step)

-- what the code reads and writes is one step
pub stepped : {E : List ℕ → List ℕ} {iv t : ℕ} {key registers before : List ℕ} (a : ℕ) (block register second : List ℕ)
    → WrapSteps E iv key t registers before → block ≡ E before → 8 ≤ length registers → t < 6 * (length registers / 8)
    → length block ≡ 16 → AllByRecursion IsByte block → IsWord (bit_xor a (t + 1)) → a ≡ big_from 0 8 block → register ≡ take 8 (drop 8 block)
    → (i k s r : ℕ) → i ≡ t % (length registers / 8) → k ≡ (t + 1) % (length registers / 8) → s ≡ 8 → r ≡ 8
    → second ≡ take r (drop (8 * k) (put_mid (8 * i) s registers register))
    → WrapSteps E iv key (t + 1) (put_mid (8 * i) s registers register) (word_bytes (bit_xor a (t + 1)) ++ second)
stepped {E = E} {iv = iv} {t = t} {key = key} {registers = registers} {before = before} a block register second
    under encrypted some inside sixteen bytes word read copy i k s r own next eight eight' out =
    let v : ℕ = bit_xor a (t + 1) in
    let size : length register ≡ 8 = omega (arith, ap length copy, length-take 8 (drop 8 block), length-drop 8 block) in
    let each : AllByRecursion IsByte register = subst (λ (bs : List ℕ). AllByRecursion IsByte bs) (sym copy)
    (each_take IsByte 8 (drop 8 block) (each_drop IsByte 8 block bytes)) in
    let split : word_bytes a ++ register ≡ block = block_split block register a sixteen bytes read copy in
    let step : E before ≡ word_bytes (bit_xor v (t + 1)) ++ register =
    sym encrypted ∙ sym split ∙ ap (λ (u : ℕ). word_bytes u ++ register) (sym (xored_back a (t + 1))) in
    let later = steps_next v register under some inside word size each step in
    let n : ℕ = length registers / 8 in
    let put : put_mid (8 * i) s registers register ≡ with_register (t % n) registers register = rw (eight, own) refl in
    let read_next : second ≡ register_of ((t + 1) % n) (with_register (t % n) registers register) =
    out ∙ rw (eight', next, put) refl in
    rw (put, read_next) later

-- no step yet
pub begun : (E : List ℕ → List ℕ) (iv : ℕ) (registers block : List ℕ) → 8 ≤ length registers → length registers % 8 ≡ 0 → IsWord iv
    → AllByRecursion IsByte registers → block ≡ word_bytes iv ++ take 8 registers → WrapSteps E iv registers 0 registers block
begun E iv registers block some whole word bytes first =
    let n : ℕ = length registers / 8 in
    let h : Between E n 0 iv registers =
    subst (λ (s : ℕ). Between E n s iv registers) (omega arith) (no_step E n 0 iv registers (omega arith) word (omega arith) bytes) in
    let R : List ℕ = h.state.R in
    let front : (i : ℕ) → i < n → at h.x i ≡ at R i = λ i below.
    sym (h.state.lie i (omega arith) (omega arith)) ∙ ap (λ (r : ℕ). at R r) (mod-eq_of_lt below) in
    let own : take n h.x ≡ R = ext_get_or 0 (take n h.x) R (omega (arith, length-take n h.x, h.tape.length_x, h.state.size))
    (λ i below. let less : i < n = omega (arith, length-take n h.x) in get_or-take n h.x i 0 less ∙ front i less) in
    let none : 0 % n ≡ 0 = let positive : 0 < n = omega arith in mod-eq_of_lt positive in
    let reads : register_of (0 % n) registers ≡ word_bytes (at h.x 0) =
    let here : 0 ≤ 0 = omega arith in after_reads (let positive : 0 < n = omega arith in positive) here (omega arith) h.state in
    let low : register_of 0 registers ≡ word_bytes (at h.x 0) = rw none at reads in
    record {
      n = n;
      x = h.x;
      a = h.a;
      tape = h.tape;
      initial = h.state.value;
      key_words = ap spelled own ∙ h.state.bytes;
      hold = held h.state;
      block_words = rw (h.state.value, ← low) (sym first);
    }

-- no step yet, in either form
pub begun_state : (E : List ℕ → List ℕ) (iv : ℕ) (registers block : List ℕ) → 8 ≤ length registers → length registers % 8 ≡ 0 → IsWord iv
    → AllByRecursion IsByte registers → block ≡ word_bytes iv ++ take 8 registers → WrapState E iv registers 0 registers block
begun_state E iv registers block some whole word bytes first =
    elim (cases_lt (length registers) 16) [
      | inl less ↦
          let one : length registers ≡ 8 = omega arith in
          let p = word_of_bytes registers one bytes in
          let all : take 8 registers ≡ registers = take_all 8 registers (omega arith) in
          inr (
            one,
            record {
              p = p.w;
              word = p.word;
              key_word = p.bytes;
              begun = λ _. (refl, first ∙ ap (λ (bs : List ℕ). word_bytes iv ++ bs) (all ∙ sym p.bytes));
              done = λ e. absurd (omega (arith, e));
            },
          )
      | inr more ↦ inl (omega arith, begun E iv registers block some whole word bytes first)
    ]

-- the step of one word
pub block_stepped : {E : List ℕ → List ℕ} {iv t : ℕ} {key registers before : List ℕ} (block : List ℕ) → t ≡ 0 → length registers ≡ 8
    → block ≡ E before → length block ≡ 16 → WrapState E iv key t registers before → WrapState E iv key (t + 1) (drop 8 block) block
block_stepped block none one encrypted sixteen (inl many) = absurd (let more = many.0 in omega arith)
block_stepped {E = E} block none one encrypted sixteen (inr h) =
    inr (
      omega (arith, length-drop 8 block),
      record {
        p = h.1.p;
        word = h.1.word;
        key_word = h.1.key_word;
        begun = λ e. absurd (omega (arith, e));
        done = λ _. (encrypted ∙ ap E (h.1.begun none).1, refl);
      },
    )

-- the step of more words
pub more_stepped : {E : List ℕ → List ℕ} {iv t u : ℕ} {key registers before registers' block : List ℕ} → ¬ (length registers ≡ 8)
    → (WrapSteps E iv key t registers before → WrapSteps E iv key u registers' block) → length registers' ≡ length registers
    → WrapState E iv key t registers before → WrapState E iv key u registers' block
more_stepped more step size (inl many) = inl (let least = many.0 in omega arith, step many.1)
more_stepped more step size (inr one) = absurd (more one.0)

-- all the steps
pub ended_registers : {E : List ℕ → List ℕ} {iv : ℕ} {key registers block : List ℕ}
    → WrapSteps E iv key (6 * (length registers / 8)) registers block → Registers E (word_bytes iv ++ key) (take 8 block ++ registers)
ended_registers {E = E} {iv = iv} {key = key} {registers = registers} {block = block} under =
    let count : length registers / 8 ≡ under.n = count_of under in
    let h : WrapSteps E iv key (6 * under.n) registers block = rw count at under in
    let n : ℕ = under.n in
    let same : h.n ≡ n = omega (arith, count_of h) in
    let x : List ℕ = h.x in
    let a : List ℕ = h.a in
    let R : List ℕ = h.hold.R in
    let P : List ℕ = take h.n x in
    let size : length P ≡ h.n = omega (arith, length-take h.n x, h.tape.length_x) in
    let tape : Tape E h.n x a = record {
      length_x = h.tape.length_x;
      length_a = h.tape.length_a;
      words_x = h.tape.words_x;
      words_a = h.tape.words_a;
      step = λ u from to. h.tape.step u (omega arith) (omega arith);
    } in
    let six : 6 * n ≡ 6 * h.n = omega arith in
    let back : (i : ℕ) → i < h.n → at x (6 * h.n + i) ≡ at R i = λ i below.
    sym (h.hold.lie (6 * h.n + i) (omega arith) (omega arith)) ∙ ap (λ (r : ℕ). at R (r % h.n)) (omega arith)
    ∙ ap (λ (r : ℕ). at R r) (turn h.n 6 i below) in
    let text : drop (6 * h.n) x ≡ R = ext_get_or 0 (drop (6 * h.n) x) R (omega (arith, length-drop (6 * h.n) x, h.tape.length_x, h.hold.size))
    (λ i below. let less : i < h.n = omega (arith, length-drop (6 * h.n) x, h.tape.length_x) in get_or-drop (6 * h.n) x i 0 ∙ back i less) in
    let value : take 8 block ≡ word_bytes (at a (6 * h.n)) =
    ap (take 8) (sym h.block_words) ∙ first_eight (at a (6 * n)) (word_bytes (at x (6 * n))) ∙ ap (λ (m : ℕ). word_bytes (at a m)) six in
    record {
      iv = iv;
      P = P;
      C = at a (6 * h.n) ∷ drop (6 * h.n) x;
      key_words = ap (λ (bs : List ℕ). word_bytes iv ++ bs) h.key_words;
      text_words = rw (value, text) (ap (λ (bs : List ℕ). word_bytes (at a (6 * h.n)) ++ bs) h.hold.words);
      wraps = record {
        x = x;
        a = a;
        tape = rw size tape;
        initial = h.initial;
        key = rw size refl;
        text = rw size refl;
      };
    }

-- the key is as long as the registers
pub key_size : {E : List ℕ → List ℕ} {iv t : ℕ} {key registers block : List ℕ} → WrapSteps E iv key t registers block → length key ≡ length registers
key_size h = omega (arith, ap length h.key_words, length-spelled (take h.n h.x), length-take h.n h.x, h.tape.length_x, ap length h.hold.words, length-spelled h.hold.R, h.hold.size)

-- all the steps, in either form
pub ended_state : {E : List ℕ → List ℕ} {iv t : ℕ} {key registers block : List ℕ} → t ≡ block_calls (8 + length registers)
    → WrapState E iv key t registers block → PaddedRegisters E (word_bytes iv ++ key) (take 8 block ++ registers)
ended_state {E = E} {iv = iv} {key = key} {registers = registers} {block = block} all (inl many) =
    let more = many.0 in
    let number = more_calls (length registers) more in
    let h : WrapSteps E iv key (6 * (length registers / 8)) registers block = rw (all, number) at many.1 in
    let size : length (word_bytes iv ++ key) ≡ 8 + length registers =
    omega (arith, length-append (word_bytes iv) key, length-word_bytes iv, key_size h) in
    many_registers (omega arith) (ended_registers h)
ended_state {E = E} {iv = iv} {key = key} {registers = registers} {block = block} all (inr one) =
    let eight = one.0 in
    let done = one.1.done (all ∙ one_call (length registers) eight) in
    let whole : take 8 block ++ registers ≡ block = ap (λ (bs : List ℕ). take 8 block ++ bs) done.1 ∙ take-append-drop 8 block in
    rw (whole, ← one.1.key_word) (one_block (joined iv one.1.p) block (joined_block iv one.1.p) (sym done.0))

-- the last block
pub state_block : {E D : List ℕ → List ℕ} {iv t : ℕ} {key registers block : List ℕ} → AreInverse E D → t ≡ block_calls (8 + length registers)
    → WrapState E iv key t registers block → IsBlock block
state_block inv all (inl many) = under_block many.1
state_block inv all (inr one) =
    let eight = one.0 in
    subst (λ (b : List ℕ). IsBlock b) (sym (one.1.done (all ∙ one_call _ eight)).0) (inv.encrypts _ (joined_block _ one.1.p))
