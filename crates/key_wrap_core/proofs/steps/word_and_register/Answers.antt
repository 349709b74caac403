-- The first write leaves the word, and the second what was read of the register.
use Rattle.std.proofs.Common.{rules, ◌≡◌, ◌∙◌, ℕ, List, [], ◌++◌, drop, take, ap, arith, refl}
use Rattle.std.proofs.Common.{length-take}
use Rattle.std.proofs.lemmas.List.{append-nil, drop_all, take_all}
use Rattle.key_wrap_core.specs.Words.{word_bytes}
use Rattle.key_wrap_core.proofs.Spelling.{each_byte, read_word}
use Rattle.key_wrap_core.proofs.steps.word_and_register.Goals as goal

pub returns : goal.returns
unfolding word_bytes
returns c =
    let register : List ℕ = c.args.register.now in
    let r : ℕ = c.read_u64.result in
    let half : List ℕ = take 8 (drop 8 c.write_u64.new.buf) in
    let none : drop 8 half ≡ [] = drop_all 8 half (omega (arith, length-take 8 (drop 8 c.write_u64.new.buf))) in
    let spelled : word_bytes r ≡ register =
    read_word register r (omega arith) (each_byte register (search rules)) c.read_u64.ensures ∙ take_all 8 register (omega arith) in
    let second : c.write_u64-2.new.buf ≡ register =
    c.write_u64-2.ensures ∙ ap (λ (bs : List ℕ). word_bytes r ++ bs) none ∙ append-nil (word_bytes r) ∙ spelled in
    rw (second, c.write_u64.ensures, append-nil register) refl
