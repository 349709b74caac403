-- One step of an unwrapping undone, none, and all of them.
use Rattle.std.proofs.Common.{◌≡◌, ℕ, ◌+◌, ◌-◌, ◌*◌, ◌/◌, ◌%◌, ◌≤◌, ◌<◌, List, ◌∷◌, ◌++◌, length, take, drop, set, bit_xor, refl, sym, ap}
use Rattle.std.proofs.Common.{subst, ◌∙◌, arith, inl, inr, length-append, length-drop, length-take, length-set, get_or-set_other}
use Rattle.std.proofs.lemmas.Bool.{cases_lt}
use Rattle.std.proofs.lemmas.List.{get_or-take, get_or-drop, ext_get_or, take-append-drop, take_all}
use Rattle.std.proofs.Math.Nat.{mod-eq_of_lt}
use Rattle.std.specs.Int.Bits.{xor_zero_r}
use Rattle.std.specs.List.{AllByRecursion}
use borrow.Rule.Slice.PartMut.{put_mid}
use Rattle.byteorder.specs.Endian.{big_from}
use Rattle.block_pair.specs.Each.{each_take, each_drop}
use Rattle.block_pair.specs.Words.{IsByte, IsWord, IsBlock}
use Rattle.key_wrap_core.specs.Words.{at, word_bytes, joined}
use Rattle.key_wrap_core.specs.BlockCalls.{block_calls}
use Rattle.key_wrap_core.specs.Tape.{Tape}
use Rattle.key_wrap_core.specs.Registers.{Registers}
use Rattle.key_wrap_core.specs.PaddedRegisters.{PaddedRegisters}
use Rattle.key_wrap_core.specs.Steps.{UnwrapSteps, UnwrapState}
use Rattle.key_wrap_core.proofs.Spelling.{word_of_bytes, joined_block, length-spelled}
use Rattle.key_wrap_core.proofs.Registering.{first_eight, past_eight, block_split}
use Rattle.key_wrap_core.proofs.PaddedForm.{many_registers, one_block}
use Rattle.key_wrap_core.proofs.Places.{Part, After, register_of, with_register, part_before, after_before, after_reads}
use Rattle.key_wrap_core.proofs.Stepping.{part_of, tape_of, held, after, turn, Between, no_step, one_call, more_calls}

-- a word before place m leaves the rest as it is
drop_after : (m p w : ℕ) (x : List ℕ) → p < m → drop m (set x p w) ≡ drop m x
drop_after m p w x before = ext_get_or 0 (drop m (set x p w)) (drop m x) (omega (arith, length-drop m (set x p w), length-drop m x, length-set x p w))
    (λ i below. get_or-drop m (set x p w) i 0 ∙ get_or-set_other x p (m + i) w 0 (omega arith) ∙ sym (get_or-drop m x i 0))

-- as many registers as their bytes say
count_of : {E : List ℕ → List ℕ} {t : ℕ} {text registers block : List ℕ} → (h : UnwrapSteps E text t registers block) → length registers / 8 ≡ h.n
count_of h = omega (arith, ap length h.hold.words, length-spelled h.hold.R, h.hold.size)

steps_earlier : {E : List ℕ → List ℕ} {t : ℕ} {text registers before : List ℕ} (v : ℕ) (register : List ℕ)
    → (h : UnwrapSteps E text (t + 1) registers before) → 0 < h.n → t < 6 * h.n → IsWord v → length register ≡ 8 → AllByRecursion IsByte register
    → E (word_bytes v ++ register) ≡ before
    → UnwrapSteps E text t (with_register (t % h.n) registers register)
    (word_bytes (bit_xor v t) ++ register_of ((h.n + t - 1) % h.n) (with_register (t % h.n) registers register))
steps_earlier {E = E} {t = t} {text = text} {registers = registers} {before = before} v register h some inside word_v eight bytes step =
    let n : ℕ = h.n in
    let new = word_of_bytes register eight bytes in
    let w : ℕ = new.w in
    let x : List ℕ = set h.x t w in
    let a : List ℕ = set h.a t v in
    let place : n + (t + 1) - 1 ≡ n + t = omega arith in
    let block : joined (bit_xor (at h.a (t + 1)) (t + 1)) (at h.x (n + t)) ≡ before = rw place at h.block_words in
    let one : E (joined v w) ≡ joined (bit_xor (at h.a (t + 1)) (t + 1)) (at h.x (n + t)) = rw (block, new.bytes) step in
    let part : Part E n t (6 * n) x a = part_before w v some inside new.word word_v one (part_of h.tape) in
    let now : After n (t + 1) h.x h.a (at h.a (t + 1)) registers = after h.hold refl in
    let later : After n t x a v (with_register (t % n) registers register) =
    subst (λ (bs : List ℕ). After n t x a v (with_register (t % n) registers bs)) new.bytes
    (after_before w v some (omega (arith, h.tape.length_x)) (omega (arith, h.tape.length_a)) now) in
    let here : t ≤ n + t - 1 = omega arith in
    let within : n + t - 1 < t + n = omega arith in
    let reads = after_reads some here within later in
    let last : at a (6 * n) ≡ at h.a (6 * n) = get_or-set_other h.a t (6 * n) v 0 (omega arith) in
    record {
      n = n;
      x = x;
      a = a;
      tape = tape_of part;
      text_words = rw (last, drop_after (6 * n) t w h.x inside) h.text_words;
      hold = held later;
      block_words = rw (later.value, reads) refl;
    }

-- the step with as many registers as the bytes say
steps_before : {E : List ℕ → List ℕ} {t : ℕ} {text registers before : List ℕ} (v : ℕ) (register : List ℕ)
    → UnwrapSteps E text (t + 1) registers before → 8 ≤ length registers → t < 6 * (length registers / 8) → IsWord v → length register ≡ 8
    → AllByRecursion IsByte register → E (word_bytes v ++ register) ≡ before
    → let n = length registers / 8 in UnwrapSteps E text t (with_register (t % n) registers register)
    (word_bytes (bit_xor v t) ++ register_of ((n + t - 1) % n) (with_register (t % n) registers register))
steps_before {E = E} {t = t} {text = text} {registers = registers} v register h some inside word eight bytes step =
    let n : ℕ = length registers / 8 in
    let count : n ≡ h.n = count_of h in
    subst (λ (m : ℕ). UnwrapSteps E text t (with_register (t % m) registers register)
    (word_bytes (bit_xor v t) ++ register_of ((m + t - 1) % m) (with_register (t % m) registers register))) (sym count)
    (steps_earlier v register h (omega arith) (omega arith) word eight bytes step)

-- what the code reads and writes is one step undone
pub unstepped : {E : List ℕ → List ℕ} {t : ℕ} {text registers before : List ℕ} (a : ℕ) (block register second : List ℕ)
    → UnwrapSteps E text (t + 1) registers before → E block ≡ before → 8 ≤ length registers → t < 6 * (length registers / 8)
    → length block ≡ 16 → AllByRecursion IsByte block → IsWord a → a ≡ big_from 0 8 block → register ≡ take 8 (drop 8 block)
    → (i k s r : ℕ) → i ≡ t % (length registers / 8) → k ≡ (length registers / 8 + t - 1) % (length registers / 8) → s ≡ 8 → r ≡ 8
    → second ≡ take r (drop (8 * k) (put_mid (8 * i) s registers register))
    → UnwrapSteps E text t (put_mid (8 * i) s registers register) (word_bytes (bit_xor a t) ++ second)
unstepped {E = E} {t = t} {text = text} {registers = registers} {before = before} a block register second
    under decrypted some inside sixteen bytes word read copy i k s r own next eight eight' out =
    let v : ℕ = bit_xor a t in
    let size : length register ≡ 8 = omega (arith, ap length copy, length-take 8 (drop 8 block), length-drop 8 block) in
    let each : AllByRecursion IsByte register = subst (λ (bs : List ℕ). AllByRecursion IsByte bs) (sym copy)
    (each_take IsByte 8 (drop 8 block) (each_drop IsByte 8 block bytes)) in
    let split : word_bytes a ++ register ≡ block = block_split block register a sixteen bytes read copy in
    let step : E (word_bytes a ++ register) ≡ before = ap E split ∙ decrypted in
    let later = steps_before a register under some inside word size each step in
    let n : ℕ = length registers / 8 in
    let put : put_mid (8 * i) s registers register ≡ with_register (t % n) registers register = rw (eight, own) refl in
    let read_next : second ≡ register_of ((n + t - 1) % n) (with_register (t % n) registers register) =
    out ∙ rw (eight', next, put) refl in
    rw (put, read_next) later

-- no step undone yet
pub unbegun : (E : List ℕ → List ℕ) (c0 : ℕ) (registers block : List ℕ) → 8 ≤ length registers → length registers % 8 ≡ 0 → IsWord c0
    → AllByRecursion IsByte registers
    → let n = length registers / 8 in block ≡ word_bytes (bit_xor c0 (6 * n)) ++ register_of (n - 1) registers
    → UnwrapSteps E (word_bytes c0 ++ registers) (6 * n) registers block
unbegun E c0 registers block some whole word bytes first =
    let n : ℕ = length registers / 8 in
    let h : Between E n (6 * n) c0 registers =
    subst (λ (s : ℕ). Between E n s c0 registers) (omega arith) (no_step E n 6 c0 registers (omega arith) word (omega arith) bytes) in
    let R : List ℕ = h.state.R in
    let back : (i : ℕ) → i < n → at h.x (6 * n + i) ≡ at R i = λ i below.
    sym (h.state.lie (6 * n + i) (omega arith) (omega arith)) ∙ ap (λ (r : ℕ). at R (r % n)) (omega arith) ∙ ap (λ (r : ℕ). at R r) (turn n 6 i below) in
    let own : drop (6 * n) h.x ≡ R = ext_get_or 0 (drop (6 * n) h.x) R (omega (arith, length-drop (6 * n) h.x, h.tape.length_x, h.state.size))
    (λ i below. let less : i < n = omega (arith, length-drop (6 * n) h.x, h.tape.length_x) in get_or-drop (6 * n) h.x i 0 ∙ back i less) in
    let positive : 0 < n = omega arith in
    let less : n - 1 < n = omega arith in
    let place : (n + 6 * n - 1) % n ≡ n - 1 = ap (λ (r : ℕ). r % n) (let e : n + 6 * n - 1 ≡ n * 6 + (n - 1) = omega arith in e) ∙ turn n 6 (n - 1) less in
    let reads : register_of ((n + 6 * n - 1) % n) registers ≡ word_bytes (at h.x (n + 6 * n - 1)) =
    let here : 6 * n ≤ n + 6 * n - 1 = omega arith in after_reads positive here (omega arith) h.state in
    let low : register_of (n - 1) registers ≡ word_bytes (at h.x (n + 6 * n - 1)) = rw place at reads in
    record {
      n = n;
      x = h.x;
      a = h.a;
      tape = h.tape;
      text_words = rw (h.state.value, own) (ap (λ (bs : List ℕ). word_bytes c0 ++ bs) h.state.bytes);
      hold = held h.state;
      block_words = rw (h.state.value, ← low) (sym first);
    }

-- all the steps undone
pub unended : {E : List ℕ → List ℕ} {text registers block : List ℕ} → UnwrapSteps E text 0 registers block
    → Registers E (take 8 block ++ registers) text
unended {E = E} {text = text} {registers = registers} {block = block} h =
    let n : ℕ = h.n in
    let x : List ℕ = h.x in
    let a : List ℕ = h.a in
    let R : List ℕ = h.hold.R in
    let size : length R ≡ n = h.hold.size in
    let tape : Tape E n x a = record {
      length_x = h.tape.length_x;
      length_a = h.tape.length_a;
      words_x = h.tape.words_x;
      words_a = h.tape.words_a;
      step = λ u from to. h.tape.step u (omega arith) to;
    } in
    let front : (i : ℕ) → i < n → at x i ≡ at R i = λ i below.
    sym (h.hold.lie i (omega arith) (omega arith)) ∙ ap (λ (r : ℕ). at R r) (mod-eq_of_lt below) in
    let own : take n x ≡ R = ext_get_or 0 (take n x) R (omega (arith, length-take n x, h.tape.length_x, size))
    (λ i below. let less : i < n = omega (arith, length-take n x) in get_or-take n x i 0 less ∙ front i less) in
    let value : take 8 block ≡ word_bytes (at a 0) =
    ap (take 8) (sym h.block_words) ∙ first_eight (bit_xor (at a 0) 0) (word_bytes (at x (n + 0 - 1))) ∙ ap word_bytes (xor_zero_r (at a 0)) in
    record {
      iv = at a 0;
      P = R;
      C = at a (6 * n) ∷ drop (6 * n) x;
      key_words = rw value (ap (λ (bs : List ℕ). word_bytes (at a 0) ++ bs) h.hold.words);
      text_words = h.text_words;
      wraps = record {
        x = x;
        a = a;
        tape = rw size tape;
        initial = refl;
        key = rw size own;
        text = rw size refl;
      };
    }

-- no step undone yet, in either form
pub unbegun_state : (E : List ℕ → List ℕ) (c0 k : ℕ) (registers block : List ℕ) → 8 ≤ length registers → length registers % 8 ≡ 0 → IsWord c0
    → AllByRecursion IsByte registers
    → (length registers ≡ 8 → k ≡ 0) → (¬ (length registers ≡ 8) → k ≡ 6 * (length registers / 8))
    → block ≡ word_bytes (bit_xor c0 k) ++ drop (length registers - 8) registers
    → UnwrapState E (word_bytes c0 ++ registers) (block_calls (8 + length registers)) registers block
unbegun_state E c0 k registers block some whole word bytes one more first =
    elim (cases_lt (length registers) 16) [
      | inl less ↦
          let eight : length registers ≡ 8 = omega arith in
          let none : k ≡ 0 = one eight in
          let zero : length registers - 8 ≡ 0 = omega arith in
          let value : word_bytes (bit_xor c0 k) ≡ word_bytes c0 = ap word_bytes (ap (λ (u : ℕ). bit_xor c0 u) none ∙ xor_zero_r c0) in
          let whole_text : block ≡ word_bytes c0 ++ registers = first ∙ rw (value, zero) refl in
          let back : registers ≡ drop 8 block = sym (ap (drop 8) whole_text ∙ past_eight c0 registers) in
          inr (eight, record { begun = λ _. (whole_text, back); done = λ e. absurd (omega (arith, e, one_call (length registers) eight)) })
      | inr many ↦
          let n : ℕ = length registers / 8 in
          let no : ¬ (length registers ≡ 8) = λ e. absurd (omega (arith, e)) in
          let count : k ≡ 6 * n = more no in
          let number : block_calls (8 + length registers) ≡ 6 * n = more_calls (length registers) (omega arith) in
          let place : length registers - 8 ≡ 8 * (n - 1) = omega arith in
          let last : take 8 (drop (8 * (n - 1)) registers) ≡ drop (8 * (n - 1)) registers =
          take_all 8 (drop (8 * (n - 1)) registers) (omega (arith, length-drop (8 * (n - 1)) registers)) in
          let shape : block ≡ word_bytes (bit_xor c0 (6 * n)) ++ register_of (n - 1) registers = first ∙ rw (count, place, last) refl in
          inl (omega arith, rw number (unbegun E c0 registers block some whole word bytes shape))
    ]

-- the step of one word undone
pub block_unstepped : {E : List ℕ → List ℕ} {t : ℕ} {text registers before : List ℕ} (block : List ℕ) → t ≡ 1 → length registers ≡ 8
    → E block ≡ before → IsBlock block → UnwrapState E text t registers before → UnwrapState E text 0 (drop 8 block) block
block_unstepped block one eight decrypted whole (inl many) = absurd (let more = many.0 in omega arith)
block_unstepped block one eight decrypted whole (inr h) =
    inr (
      omega (arith, length-drop 8 block, whole.sixteen),
      record {
        begun = λ e. absurd (omega (arith, e));
        done = λ _. (whole, decrypted ∙ (h.1.begun one).0, refl);
      },
    )

-- the step of more words undone
pub more_unstepped : {E : List ℕ → List ℕ} {t u : ℕ} {text registers before registers' block : List ℕ} → ¬ (length registers ≡ 8)
    → (UnwrapSteps E text t registers before → UnwrapSteps E text u registers' block) → length registers' ≡ length registers
    → UnwrapState E text t registers before → UnwrapState E text u registers' block
more_unstepped more step size (inl many) = inl (let least = many.0 in omega arith, step many.1)
more_unstepped more step size (inr one) = absurd (more one.0)

-- between two steps there is a block
many_block : {E : List ℕ → List ℕ} {t : ℕ} {text registers block : List ℕ} → UnwrapSteps E text t registers block → IsBlock block
many_block {t = t} h = subst (λ (b : List ℕ). IsBlock b) h.block_words (joined_block (bit_xor (at h.a t) t) (at h.x (h.n + t - 1)))

-- all the steps undone, in either form
pub unended_state : {E : List ℕ → List ℕ} {text registers block : List ℕ} → UnwrapState E text 0 registers block
    → PaddedRegisters E (take 8 block ++ registers) text
unended_state {registers = registers} {block = block} (inl many) =
    let least = many.0 in
    let whole = many_block many.1 in
    many_registers (omega (arith, length-append (take 8 block) registers, length-take 8 block, whole.sixteen)) (unended many.1)
unended_state {E = E} {text = text} {registers = registers} {block = block} (inr one) =
    let done = one.1.done refl in
    let same : take 8 block ++ registers ≡ block = rw done.2 (take-append-drop 8 block) in
    rw same (one_block block text done.0 done.1)

pub unended_padded : {E : List ℕ → List ℕ} {text registers block : List ℕ} (found : ℕ) → word_bytes found ≡ take 8 block
    → UnwrapState E text 0 registers block → PaddedRegisters E (word_bytes found ++ registers) text
unended_padded found value state = rw value (unended_state state)

-- what is to be decrypted is a block
pub undo_block : {E : List ℕ → List ℕ} {t : ℕ} {text registers block : List ℕ} → (length registers ≡ 8 → IsBlock text × (t ≡ 1))
    → UnwrapState E text t registers block → IsBlock block
undo_block one (inl many) = many_block many.1
undo_block one (inr h) = subst (λ (b : List ℕ). IsBlock b) (sym (h.1.begun (one h.0).1).0) (one h.0).0

-- the last block that was decrypted
pub undone_block : {E : List ℕ → List ℕ} {text registers block : List ℕ} → UnwrapState E text 0 registers block → IsBlock block
undone_block (inl many) = many_block many.1
undone_block (inr one) = (one.1.done refl).0
