-- C0 is the first word of the text.
use Rattle.std.proofs.Common.{rules, ◌≡◌, ◌∙◌, ℕ, List, length, arith}
use Rattle.std.proofs.lemmas.List.{take_all}
use Rattle.key_wrap_core.specs.Words.{word_bytes}
use Rattle.key_wrap_core.proofs.Spelling.{each_byte, read_word}
use Rattle.key_wrap_steps.proofs.unwrap_steps.begin_last.Goals as goal

pub returns : goal.returns
returns c =
    let first : List ℕ = c.args.first.now in
    let c0 : ℕ = c.read_u64.result in
    let eight : length first ≡ 8 = search rules in
    let front : word_bytes c0 ≡ first =
    read_word first c0 (omega arith) (each_byte first (search rules)) c.read_u64.ensures ∙ take_all 8 first (omega arith) in
    record {
      all_left = c.step_count.ensures;
      begins = λ E. rw (c.step_count.ensures, ← front) (c.last_block.ensures E);
    }
