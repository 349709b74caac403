-- `done` and `same`: the key was wrapped to this wrapped key.
use Rattle.std.proofs.Common.{◌≡◌, ◌∙◌, ap, sym, rules, length}
use mir.Syntax.{w32}
use mir.Val.{SFits}
use Rattle.std.proofs.lemmas.Bool.Decides.{Decides-eqb}
use Rattle.std.proofs.lemmas.Slice.Eq.{slice_eq-Decides}
use Rattle.keywrap_calls.proofs.KnownAnswers.{is_done, not_done, differ, equal, other_text, not_unwrapped, found_key, padded_lengths}
use Rattle.keywrap_calls.proofs.known_answers.is_padded.Goals as goal

pub returns-then-ne-clause-right : goal.returns-then-ne-clause-right
returns-then-ne-clause-right g c =
    let fits : SFits w32 c.wrap_padded.result = search rules in
    other_text _ _ _ _ _ _ _ _ c.wrap_padded.ensures.wraps (is_done _ fits c.if-wrap_padded-ne-DONE.false)
    (differ c.wrap_padded.new.text c.args.text.now _ c.ne.ensures c.if-ne.true)

pub returns-then-unwrap_padded-ne-DONE-clause-right : goal.returns-then-unwrap_padded-ne-DONE-clause-right
returns-then-unwrap_padded-ne-DONE-clause-right g c =
    let fits : SFits w32 c.wrap_padded.result = search rules in
    let done = is_done _ fits c.if-wrap_padded-ne-DONE.false in
    let same : c.wrap_padded.new.text ≡ c.args.text.now = equal c.wrap_padded.new.text c.args.text.now _ c.ne.ensures c.if-ne.false in
    let lengths = (c.wrap_padded.ensures.wraps.done.0 done).1 in
    not_unwrapped _ _ _ _ _ _ _ _ _ _ c.unwrap_padded.ensures.unwraps
    (padded_lengths _ _ _ _ c.next_multiple_of-room.result lengths (ap length (sym same) ∙ c.wrap_padded.auto.text) (search rules) (search rules))
    (not_done _ c.if-unwrap_padded-ne-DONE.true)

pub returns-clause-right : goal.returns-clause-right
returns-clause-right g c =
    let fits : SFits w32 c.unwrap_padded.result = search rules in
    found_key _ _ _ _ _ _ _ _ _ _ _ c.unwrap_padded.ensures.unwraps (is_done _ fits c.if-unwrap_padded-ne-DONE.false)
    (slice_eq-Decides Decides-eqb _ _ _ c.eq.ensures)

pub returns-clause-tried : goal.returns-clause-tried
returns-clause-tried g c = λ said.
    let fits : SFits w32 c.wrap_padded.result = search rules in
    let found_fits : SFits w32 c.unwrap_padded.result = search rules in
    let same : c.wrap_padded.new.text ≡ c.args.text.now = equal c.wrap_padded.new.text c.args.text.now _ c.ne.ensures c.if-ne.false in
    let done = is_done _ fits c.if-wrap_padded-ne-DONE.false in
    let found_done = is_done _ found_fits c.if-unwrap_padded-ne-DONE.false in
    let decides = slice_eq-Decides Decides-eqb _ _ _ c.eq.ensures in (
      record { before = _; status = _; done = done; made = rw same at c.wrap_padded.ensures.made },
      record {
        before = _;
        after = _;
        len = _;
        status = _;
        done = found_done;
        found = decides.0 said;
        made = c.unwrap_padded.ensures.made;
      },
    )
