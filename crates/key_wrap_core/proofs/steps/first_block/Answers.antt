-- The first block is the initial value and the first register.
use Rattle.std.proofs.Common.{rules, ℕ, List, arith}
use Rattle.key_wrap_core.proofs.Spelling.{each_byte}
use Rattle.key_wrap_core.proofs.WrapStepping.{begun_state}
use Rattle.key_wrap_core.proofs.steps.first_block.Goals as goal

pub returns : goal.returns
returns c = λ E.
    let registers : List ℕ = c.args.registers.now in
    begun_state E c.args.iv registers c.word_and_register.result (omega arith) (omega arith) (search rules) (each_byte registers (search rules))
    c.word_and_register.ensures
