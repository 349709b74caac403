-- C0 is the first word of the text.
use Rattle.std.proofs.Common.{rules, ◌≡◌, ◌+◌, ◌-◌, ℕ, List, length, take, drop, arith, length-drop}
use Rattle.key_wrap_core.specs.Words.{word_bytes}
use Rattle.key_wrap_core.proofs.Spelling.{each_byte, read_word}
use Rattle.key_wrap_core.proofs.FoundForms.{behind_first}
use Rattle.key_wrap_steps.proofs.rewrap_steps.begin_text.Goals as goal

pub returns : goal.returns
returns c =
    let text : List ℕ = c.args.text.now in
    let c0 : ℕ = c.read_u64.result in
    let front : word_bytes c0 ≡ take 8 text = read_word text c0 (omega arith) (each_byte text (search rules)) c.read_u64.ensures in
    let size : length (drop 8 text) ≡ length text - 8 = length-drop 8 text in
    let last = rw (behind_first text) at c.last_block.ensures in
    let back : 8 + (length text - 8) ≡ length text = omega arith in
    record {
      begun = record {
        all_left = rw size c.step_count.ensures;
        begins = λ E. rw (c.step_count.ensures, ← front, ← size) (last E);
      };
      all = rw back at c.step_count.ensures;
    }
