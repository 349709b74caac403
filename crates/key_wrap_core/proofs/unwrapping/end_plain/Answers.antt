-- The key belongs to the text if the initial value found is the expected one.
use Rattle.std.proofs.Common.{rules, ◌≡◌, ℕ, List, length, ◌+◌, ◌++◌, arith, length-append}
use Rattle.key_wrap_core.specs.Words.{word_bytes}
use Rattle.key_wrap_core.specs.Lengths.{IsPlainTextLength}
use Rattle.key_wrap_core.specs.Registers.{Registers}
use Rattle.key_wrap_core.proofs.Spelling.{length-word_bytes}
use Rattle.key_wrap_core.proofs.Tapes.{registers_length}
use Rattle.key_wrap_core.proofs.PaddedForm.{registers_many}
use Rattle.key_wrap_core.proofs.Unwrappings.{plain_decided}
use Rattle.key_wrap_core.proofs.unwrapping.end_plain.Goals as goal

pub returns : goal.returns
returns c =
    let registers : List ℕ = c.args.registers.now in
    let d = c.decide.ensures in
    let before : length (word_bytes c.args.found ++ registers) ≡ 8 + length registers =
    omega (arith, length-append (word_bytes c.args.found) registers, length-word_bytes c.args.found) in
    record {
      answer = λ E D text inv run.
          let many : Registers E (word_bytes c.args.found ++ registers) text = registers_many (let legal = c.requires.length in omega arith) run in
          let size : length text ≡ 8 + length registers = omega (arith, registers_length many, before) in
          let legal : IsPlainTextLength (length text) = rw size c.requires.length in
          plain_decided c.args.iv c.args.found registers c.decide.new.registers text c.decide.result inv (search rules) (search rules) c.requires.free legal
          many d.passes d.only_fault d.kept;
      only_fault = d.only_fault;
      cleared = λ e. d.cleared (search rules);
    }
