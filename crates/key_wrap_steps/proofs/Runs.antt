-- The ends of wrappings, and whole runs of the steps.
use Rattle.std.proofs.Common.{◌≡◌, ℕ, zero, suc, ◌+◌, ◌*◌, ◌/◌, ◌<◌, List, ◌++◌, length, take, refl, sym, ap, subst, arith, inl, inr}
use Rattle.block_pair.specs.Words.{IsWord}
use Rattle.key_wrap_core.specs.Words.{word_bytes}
use Rattle.key_wrap_core.specs.BlockCalls.{block_calls}
use Rattle.key_wrap_core.specs.Lengths.{IsPlainKeyLength, IsPaddedKeyLength}
use Rattle.key_wrap_core.specs.Plain.{Plain}
use Rattle.key_wrap_core.specs.Padded.{Padded, aiv, padded}
use Rattle.key_wrap_core.specs.PaddedRegisters.{PaddedRegisters}
use Rattle.key_wrap_core.specs.Steps.{WrapSteps, WrapState, WrapRun, UnwrapState, UnwrapRun}
use Rattle.key_wrap_core.proofs.Spelling.{word_place, length-word_bytes}
use Rattle.key_wrap_core.proofs.PlainForm.{registers_plain}
use Rattle.key_wrap_core.proofs.PaddedForm.{registers_padded}
use Rattle.key_wrap_core.proofs.Stepping.{more_calls}
use Rattle.key_wrap_core.proofs.WrapStepping.{ended_registers, ended_state, key_size}
use Rattle.key_wrap_core.proofs.UnwrapStepping.{unended_state}

-- what holds at 0 and from each number to the next holds at the last, and back
pub climb : (S : ℕ → Type 0) (n : ℕ) → S 0 → ((t : ℕ) → t < n → S t → S (t + 1)) → S n
climb S zero start step = start
climb S (suc n) start step =
    let next : n + 1 ≡ suc n = omega arith in
    subst S next (step n (omega arith) (climb S n start (λ t below. step t (omega arith))))

pub descend : (S : ℕ → Type 0) (n : ℕ) → S n → ((t : ℕ) → t < n → S (t + 1) → S t) → S 0
descend S zero start step = start
descend S (suc n) start step =
    let next : n + 1 ≡ suc n = omega arith in
    descend S n (step n (omega arith) (subst S (sym next) start)) (λ t below. step t (omega arith))

-- all the steps of a plain key
pub ended_plain : {E : List ℕ → List ℕ} {iv t : ℕ} {key registers block : List ℕ} → t ≡ block_calls (8 + length registers)
    → IsPlainKeyLength (length key) → WrapState E iv key t registers block → Plain E iv key (take 8 block ++ registers)
ended_plain {E = E} {iv = iv} {key = key} {registers = registers} {block = block} all legal (inl many) =
    let more = many.0 in
    let number = more_calls (length registers) more in
    let h : WrapSteps E iv key (6 * (length registers / 8)) registers block = rw (all, number) at many.1 in
    let word : IsWord iv = subst IsWord h.initial (word_place h.a h.tape.words_a 0) in
    registers_plain iv key (take 8 block ++ registers) word legal (ended_registers h)
ended_plain all legal (inr one) = absurd (omega (arith, ap length one.1.key_word, length-word_bytes one.1.p, legal.1))

-- all the steps of a padded key
pub ended_padded : {E : List ℕ → List ℕ} {t : ℕ} {key registers block : List ℕ} → t ≡ block_calls (8 + length registers)
    → IsPaddedKeyLength (length key) → WrapState E (aiv (length key)) (padded key) t registers block
    → Padded E key (take 8 block ++ registers)
ended_padded {key = key} {registers = registers} {block = block} all legal state =
    registers_padded key (word_bytes (aiv (length key)) ++ padded key) (take 8 block ++ registers) legal refl (ended_state all state)

-- in every state the key is as long as the registers
pub state_size : {E : List ℕ → List ℕ} {iv t : ℕ} {key registers block : List ℕ} → WrapState E iv key t registers block
    → length key ≡ length registers
state_size (inl many) = key_size many.1
state_size (inr one) = let eight = one.0 in omega (arith, ap length one.1.key_word, length-word_bytes one.1.p, eight)

-- a whole wrapping
pub run_plain : (E : List ℕ → List ℕ) (iv : ℕ) (key : List ℕ) (registers block : ℕ → List ℕ) → IsPlainKeyLength (length key)
    → WrapRun E iv key registers block
    → let all = block_calls (8 + length key) in Plain E iv key (take 8 (block all) ++ registers all)
run_plain E iv key registers block legal run =
    let all : ℕ = block_calls (8 + length key) in
    let state = climb (λ (t : ℕ). WrapState E iv key t (registers t) (block t)) all run.begun run.step in
    ended_plain (ap (λ (k : ℕ). block_calls (8 + k)) (state_size state)) legal state

pub run_padded : (E : List ℕ → List ℕ) (key : List ℕ) (registers block : ℕ → List ℕ) → IsPaddedKeyLength (length key)
    → WrapRun E (aiv (length key)) (padded key) registers block
    → let all = block_calls (8 + length (padded key)) in Padded E key (take 8 (block all) ++ registers all)
run_padded E key registers block legal run =
    let all : ℕ = block_calls (8 + length (padded key)) in
    let state = climb (λ (t : ℕ). WrapState E (aiv (length key)) (padded key) t (registers t) (block t)) all run.begun run.step in
    ended_padded (ap (λ (k : ℕ). block_calls (8 + k)) (state_size state)) legal state

-- a whole unwrapping
pub run_undone : (E : List ℕ → List ℕ) (text : List ℕ) (registers block : ℕ → List ℕ) → UnwrapRun E text registers block
    → PaddedRegisters E (take 8 (block 0) ++ registers 0) text
run_undone E text registers block run =
    unended_state (descend (λ (t : ℕ). UnwrapState E text t (registers t) (block t)) (block_calls (length text)) run.begun run.step)
