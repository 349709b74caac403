use Rattle.std.proofs.Common.{rules, refl, inl}
use mir.Syntax.{w32}
use mir.Val.{SFits}
use Rattle.key_wrap_core.specs.InPlace.{ArePlainLengths}
use Rattle.keywrap_calls.specs.Keks.{IsKek}
use Rattle.test_vectors.specs.Published.{damaged_kek}
use Rattle.keywrap_calls.proofs.KnownAnswers.{is_integrity}
use Rattle.keywrap_calls.proofs.known_answers.is_refused.Goals as goal

pub returns-clause-right : goal.returns-clause-right
unfolding IsKek
returns-clause-right g c =
    let fits : SFits w32 c.unwrap.result = search rules in
    let test = is_integrity c.unwrap.result fits in
    let kek : IsKek damaged_kek = inl (inl refl) in
    let lengths : ArePlainLengths 16 24 = search rules in
    (λ said. (c.unwrap.ensures.unwraps.integrity.0 (test.0 said)).2, λ none. test.1 (c.unwrap.ensures.unwraps.integrity.1 (kek, lengths, none)))

pub returns-clause-tried : goal.returns-clause-tried
returns-clause-tried g c = λ said.
    let fits : SFits w32 c.unwrap.result = search rules in
    record { before = _; after = _; status = _; refused = (is_integrity c.unwrap.result fits).0 said; made = c.unwrap.ensures.made }
