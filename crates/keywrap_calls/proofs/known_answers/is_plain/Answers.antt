-- `done` and `same`: the key was wrapped to this wrapped key.
use Rattle.std.proofs.Common.{◌≡◌, ◌∙◌, ap, sym, rules, length}
use mir.Syntax.{w32}
use mir.Val.{SFits}
use Rattle.std.proofs.lemmas.Bool.Decides.{Decides-eqb}
use Rattle.std.proofs.lemmas.Slice.Eq.{slice_eq-Decides}
use Rattle.keywrap_calls.proofs.KnownAnswers.{is_done, not_done, differ, equal, other_text, not_unwrapped, found_key, plain_lengths}
use Rattle.keywrap_calls.proofs.known_answers.is_plain.Goals as goal

pub returns-then-ne-clause-right : goal.returns-then-ne-clause-right
returns-then-ne-clause-right g c =
    let fits : SFits w32 c.wrap.result = search rules in
    other_text _ _ _ _ _ _ _ _ c.wrap.ensures.wraps (is_done _ fits c.if-wrap-ne-DONE.false)
    (differ c.wrap.new.text c.args.text.now _ c.ne.ensures c.if-ne.true)

pub returns-then-unwrap-ne-DONE-clause-right : goal.returns-then-unwrap-ne-DONE-clause-right
returns-then-unwrap-ne-DONE-clause-right g c =
    let fits : SFits w32 c.wrap.result = search rules in
    let done = is_done _ fits c.if-wrap-ne-DONE.false in
    let same : c.wrap.new.text ≡ c.args.text.now = equal c.wrap.new.text c.args.text.now _ c.ne.ensures c.if-ne.false in
    let lengths = (c.wrap.ensures.wraps.done.0 done).1 in
    not_unwrapped _ _ _ _ _ _ _ _ _ _ c.unwrap.ensures.unwraps (plain_lengths _ _ _ _ lengths (ap length (sym same) ∙ c.wrap.auto.text) (search rules)) (not_done _ c.if-unwrap-ne-DONE.true)

pub returns-clause-right : goal.returns-clause-right
returns-clause-right g c =
    let fits : SFits w32 c.unwrap.result = search rules in
    found_key _ _ _ _ _ _ _ _ _ _ _ c.unwrap.ensures.unwraps (is_done _ fits c.if-unwrap-ne-DONE.false)
    (slice_eq-Decides Decides-eqb _ _ _ c.eq.ensures)

pub returns-clause-tried : goal.returns-clause-tried
returns-clause-tried g c = λ said.
    let fits : SFits w32 c.wrap.result = search rules in
    let found_fits : SFits w32 c.unwrap.result = search rules in
    let same : c.wrap.new.text ≡ c.args.text.now = equal c.wrap.new.text c.args.text.now _ c.ne.ensures c.if-ne.false in
    let done = is_done _ fits c.if-wrap-ne-DONE.false in
    let found_done = is_done _ found_fits c.if-unwrap-ne-DONE.false in
    let found : c.unwrap.new.key ≡ c.args.key.now = (slice_eq-Decides Decides-eqb _ _ _ c.eq.ensures).0 said in (
      record { before = _; status = _; done = done; made = rw same at c.wrap.ensures.made },
      record { before = _; status = _; done = found_done; made = rw found at c.unwrap.ensures.made },
    )
