-- The first block to decrypt is C0, xored with the number of the last step, and the last register.
use Rattle.std.proofs.Common.{rules, ◌-◌, ◌++◌, ◌∙◌, ℕ, List, length, drop, bit_xor, arith, ap, length-drop}
use Rattle.std.proofs.lemmas.List.{take_all}
use Rattle.key_wrap_core.specs.Words.{word_bytes}
use Rattle.key_wrap_core.proofs.Spelling.{each_byte}
use Rattle.key_wrap_core.proofs.UnwrapStepping.{unbegun_state}
use Rattle.key_wrap_core.proofs.steps.last_block.Goals as goal

pub returns : goal.returns
returns c = λ E.
    let registers : List ℕ = c.args.registers.now in
    let c0 : ℕ = c.args.c0 in
    let k : ℕ = c.last_counter.result in
    let rest : ℕ = length registers - 8 in
    let last = ap (λ (bs : List ℕ). word_bytes (bit_xor c0 k) ++ bs)
    (take_all (length registers - rest) (drop rest registers) (omega (arith, length-drop rest registers))) in
    unbegun_state E c0 k registers c.word_and_register.result (omega arith) (omega arith) (search rules) (each_byte registers (search rules))
    c.last_counter.ensures.one_word c.last_counter.ensures.more (c.word_and_register.ensures ∙ last)
