-- The decrypted block is split into its two words: the first is xored for the next block, the second goes into its register.
use Rattle.std.proofs.Common.{rules, ◌≡◌, ◌+◌, ◌*◌, ◌/◌, ◌%◌, ◌^◌, ◌<◌, ◌-◌, ◌∙◌, ℕ, length, arith, refl}
use Rattle.key_wrap_core.proofs.Spelling.{each_byte}
use Rattle.key_wrap_core.proofs.Stepping.{before_turn}
use Rattle.key_wrap_core.proofs.UnwrapStepping.{unstepped}
use Rattle.key_wrap_core.proofs.steps.unstep_words.Goals as goal

pub returns : goal.returns
returns c =
    let legal = c.requires.legal in
    let n : ℕ = length c.args.registers.now / 8 in
    let t : ℕ = c.args.left in
    let i : ℕ = t % n in
    let k : ℕ = c.register_before-next.result in
    let some : 0 < n = omega arith in
    let sixteen : length c.args.block ≡ 16 = search rules in
    let read : c.read_u64.result < 2 ^ 64 = search rules in
    λ E text before u e.
    rw c.word_and_register.ensures
    (unstepped c.read_u64.result c.args.block c.copy_from_slice.new.self _ u e
    (omega arith) (omega arith) sixteen (each_byte c.args.block (search rules)) read
    c.read_u64.ensures c.copy_from_slice.ensures.after
    i k (8 * i + 8 - 8 * i) (8 * k + 8 - 8 * k) refl (c.register_before-next.ensures.number (omega arith) ∙ before_turn n t some) (omega arith) (omega arith) refl)
