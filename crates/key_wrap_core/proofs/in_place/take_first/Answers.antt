-- The word is read before its bytes become zeros.
use Rattle.std.proofs.Common.{rules, ◌≡◌, ◌++◌, ℕ, List, length, take, drop, replicate, arith, ap, ◌∙◌, length-take}
use Rattle.key_wrap_core.proofs.Spelling.{read_word, each_byte}
use Rattle.key_wrap_core.proofs.in_place.take_first.Goals as goal

pub returns-clause-first : goal.returns-clause-first
returns-clause-first c =
    let text : List ℕ = c.args.buf.now in
    read_word text c.read_u64-first.result (omega arith) (each_byte text (search rules)) c.read_u64-first.ensures

pub returns-clause-cleared : goal.returns-clause-cleared
returns-clause-cleared c =
    let text : List ℕ = c.args.buf.now in
    let eight : length (take 8 text) ≡ 8 = omega (arith, length-take 8 text) in
    ap (λ (bs : List ℕ). bs ++ drop 8 text) (c.fill.ensures.after (λ y e. e) ∙ ap (λ (n : ℕ). replicate n 0) eight)
