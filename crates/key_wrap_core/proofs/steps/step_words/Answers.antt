-- The encrypted block is split into its two words: the first is xored, the second goes into its register.
use Rattle.std.proofs.Common.{rules, ◌≡◌, ◌+◌, ◌*◌, ◌/◌, ◌%◌, ◌^◌, ◌<◌, ◌-◌, ◌∙◌, ℕ, length, arith, refl}
use Rattle.std.proofs.lemmas.Nat.{xor_lt}
use Rattle.key_wrap_core.proofs.Spelling.{each_byte}
use Rattle.key_wrap_core.proofs.Stepping.{after_turn}
use Rattle.key_wrap_core.proofs.WrapStepping.{stepped}
use Rattle.key_wrap_core.proofs.steps.step_words.Goals as goal

pub returns : goal.returns
returns c =
    let legal = c.requires.legal in
    let n : ℕ = length c.args.registers.now / 8 in
    let t : ℕ = c.args.done in
    let i : ℕ = t % n in
    let k : ℕ = c.register_after-next.result in
    let some : 0 < n = omega arith in
    let sixteen : length c.args.block ≡ 16 = search rules in
    let read : c.read_u64.result < 2 ^ 64 = search rules in
    let few : t + 1 < 2 ^ 64 = omega arith in
    λ E iv key before u e.
    rw c.word_and_register.ensures
    (stepped c.read_u64.result c.args.block c.copy_from_slice.new.self _ u e
    (omega arith) (omega arith) sixteen (each_byte c.args.block (search rules)) (xor_lt 64 c.read_u64.result (t + 1) read few)
    c.read_u64.ensures c.copy_from_slice.ensures.after
    i k (8 * i + 8 - 8 * i) (8 * k + 8 - 8 * k) refl (c.register_after-next.ensures.number (omega arith) ∙ after_turn n t some) (omega arith) (omega arith) refl)
