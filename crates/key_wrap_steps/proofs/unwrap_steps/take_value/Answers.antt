-- The first word of the block is read before it is cleared.
use Rattle.std.proofs.Common.{rules, ◌≡◌, ℕ, List, length, arith}
use Rattle.key_wrap_core.proofs.Spelling.{each_byte, read_word}
use Rattle.key_wrap_steps.proofs.unwrap_steps.take_value.Goals as goal

pub returns-clause-value : goal.returns-clause-value
returns-clause-value c =
    let block : List ℕ = c.args.block.now in
    let sixteen : length block ≡ 16 = search rules in
    read_word block c.read_u64-found.result (omega arith) (each_byte block (search rules)) c.read_u64-found.ensures
