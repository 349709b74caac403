-- The step of more words undone, or of one.
use Rattle.std.proofs.Common.{rules, ◌≡◌, ℕ, List, length, drop, arith, ◌∙◌, length-drop}
use Rattle.std.proofs.lemmas.List.{take_all}
use Rattle.block_pair.specs.Words.{IsBlock}
use Rattle.key_wrap_core.proofs.Stepping.{one_call}
use Rattle.key_wrap_core.proofs.UnwrapStepping.{block_unstepped, more_unstepped}
use Rattle.key_wrap_core.proofs.steps.unstep_registers.Goals as goal

pub returns-then-registers-gt-WORD : goal.returns-then-registers-gt-WORD
returns-then-registers-gt-WORD c = λ E text before state decrypted.
    let size : length c.unstep_words.new.registers ≡ length c.args.registers.now = search rules in
    more_unstepped (λ e. absurd (omega (arith, e))) (λ h. c.unstep_words.ensures E text before h decrypted) size state

pub returns : goal.returns
returns c = λ E text before state decrypted.
    let block : List ℕ = c.args.block in
    let whole : IsBlock block = c.requires.block in
    let eight : length c.args.registers.now ≡ 8 = let legal = c.requires.legal in omega arith in
    let rest : c.copy_from_slice.new.self ≡ drop 8 block =
    c.copy_from_slice.ensures.after ∙ take_all 8 (drop 8 block) (omega (arith, length-drop 8 block, whole.sixteen)) in
    let none : c.args.left ≡ 0 = let left = c.requires.left in omega (arith, one_call (length c.args.registers.now) eight) in
    rw (rest, none) (block_unstepped block (omega arith) eight decrypted whole state)
