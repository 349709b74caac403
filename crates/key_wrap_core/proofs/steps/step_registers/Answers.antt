-- The step of more words, or of one.
use Rattle.std.proofs.Common.{rules, ◌≡◌, ℕ, List, length, drop, arith, ◌∙◌, length-drop}
use Rattle.std.proofs.lemmas.List.{take_all}
use Rattle.key_wrap_core.proofs.Stepping.{one_call}
use Rattle.key_wrap_core.proofs.WrapStepping.{block_stepped, more_stepped}
use Rattle.key_wrap_core.proofs.steps.step_registers.Goals as goal

pub returns-then-registers-gt-WORD : goal.returns-then-registers-gt-WORD
returns-then-registers-gt-WORD c = λ E iv key before state encrypted.
    let size : length c.step_words.new.registers ≡ length c.args.registers.now = search rules in
    more_stepped (λ e. absurd (omega (arith, e))) (λ h. c.step_words.ensures E iv key before h encrypted) size state

pub returns : goal.returns
returns c = λ E iv key before state encrypted.
    let block : List ℕ = c.args.block in
    let sixteen : length block ≡ 16 = search rules in
    let eight : length c.args.registers.now ≡ 8 = let legal = c.requires.legal in omega arith in
    let rest : c.copy_from_slice.new.self ≡ drop 8 block =
    c.copy_from_slice.ensures.after ∙ take_all 8 (drop 8 block) (omega (arith, length-drop 8 block)) in
    let none : c.args.done ≡ 0 = let left = c.requires.left in omega (arith, one_call (length c.args.registers.now) eight) in
    rw rest (block_stepped block none eight encrypted sixteen state)
