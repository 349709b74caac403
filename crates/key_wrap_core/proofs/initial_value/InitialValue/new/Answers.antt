-- The word that was read spells the bytes.
use Rattle.std.proofs.Common.{rules, ℕ, List, arith, ◌∙◌}
use Rattle.std.proofs.lemmas.List.{take_all}
use Rattle.key_wrap_core.proofs.Spelling.{read_word, each_byte}
use Rattle.key_wrap_core.proofs.initial_value.InitialValue.new.Goals as goal

pub returns-clause-bytes : goal.returns-clause-bytes
returns-clause-bytes c =
    let bytes : List ℕ = c.args.bytes in
    read_word bytes c.read_u64-word.result (omega arith) (each_byte bytes (search rules)) c.read_u64-word.ensures ∙ take_all 8 bytes (omega arith)
