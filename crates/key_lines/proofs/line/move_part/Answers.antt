-- What the reader showed of the line, as far as there was room for it, was moved.
use Rattle.key_lines.proofs.Common.{◌≡◌, length, take, arith, refl, sym, ◌∙◌, append-nil, Consumes-nil, Consumes-kept, nat_tests, length-take-le}
use Rattle.key_lines.proofs.Showing.{Consumes-line, Consumes-part, ended_fits, ends-empty, front_fits, MovesPart-memory, none_taken, nothing_shown, past_by_one, room_is, some_moved}
use Rattle.key_lines.proofs.line.move_part.Goals as goal

pub slice_bounds-front-end : goal.slice_bounds-front-end
slice_bounds-front-end g c = room_is c.min.result _ c.in-Ok.shown.now c.min.ensures

pub returns-in-Err-clause-part : goal.returns-in-Err-clause-part
returns-in-Err-clause-part g c = (Consumes-kept _ _ _ _ (Consumes-nil _) c.show.follows.holds-at-none.0, refl)

pub slice_bounds-extend_from_slice-end : goal.slice_bounds-extend_from_slice-end
slice_bounds-extend_from_slice-end g c = sym (length-take-le c.before_lf-len.result _ c.before_lf-len.ensures.bound)

pub returns-in_err-extend_from_slice-clause-part : goal.returns-in_err-extend_from_slice-clause-part
returns-in_err-extend_from_slice-clause-part g c =
    let answer = c.from_residual in
    let kept = c.show.follows.holds-at-none.0 in
    MovesPart-memory c.args.limit _ _ _ _ answer.result answer.ensures.1 kept c.in_err-extend_from_slice.ensures.items

pub returns-then-has_lf-clause-part : goal.returns-then-has_lf-clause-part
returns-then-has_lf-clause-part g c =
    let room = c.min.result in
    let len = c.before_lf-len.result in
    let shown = c.in-Ok.shown.now in
    let before = c.args.line.now.items in
    let after = c.extend_from_slice.new.self.items in
    let reader = c.show.follows.lender-at-none in
    let held = c.show.follows.holds-at-none in
    let items = c.in_ok-extend_from_slice.ensures.items in (
      take len (take room shown),
      c.before_lf-len.ensures.none,
      Consumes-line _ (g.R.Read.remaining reader) _ (g.R.BufRead.consumable_len reader) _ room len c.in-Ok.ensures.front held.0
          (rw c.in-Ok.is at held.1) c.consume.ensures.bytes c.if-has_lf.true (c.before_lf-len.ensures.lf c.if-has_lf.true),
      items,
      ended_fits c.args.limit len before (take room shown) after items c.if-has_lf.true
          (front_fits room c.args.limit c.len.result (length before) shown c.min.ensures (c.len.ensures ∙ c.args.line.now.ok.0)),
    )

pub returns-then-is_end-clause-part : goal.returns-then-is_end-clause-part
returns-then-is_end-clause-part g c =
    let room = c.min.result in
    let len = c.before_lf-len.result in
    let shown = c.in-Ok.shown.now in
    let reader = c.show.follows.lender-at-none in
    let held = c.show.follows.holds-at-none in
    let none : length (take room shown) ≡ 0 = nothing_shown (length (take room shown)) (sym c.is_empty-is_end.ensures ∙ c.if-is_end.true) in
    let nothing = none_taken (take room shown) len none c.before_lf-len.ensures.bound in (
      rw nothing at (Consumes-part _ (g.R.Read.remaining reader) _ (g.R.BufRead.consumable_len reader) _ room len c.in-Ok.ensures.front held.0
          (rw c.in-Ok.is at held.1) c.consume-2.ensures.bytes c.before_lf-len.ensures.bound),
      ends-empty _ shown room c.args.limit c.len.result _ c.in-Ok.ensures.end c.min.ensures c.len.ensures c.requires.room none,
      rw nothing at c.in_ok-extend_from_slice.ensures.items ∙ append-nil _,
    )

pub returns-then-len-limit-clause-part : goal.returns-then-len-limit-clause-part
returns-then-len-limit-clause-part g c =
    let room = c.min.result in
    let len = c.before_lf-len.result in
    let shown = c.in-Ok.shown.now in
    let before = c.args.line.now.items in
    let after = c.extend_from_slice.new.self.items in
    let reader = c.show.follows.lender-at-none in
    let held = c.show.follows.holds-at-none in
    let items = c.in_ok-extend_from_slice.ensures.items in (
      take len (take room shown),
      c.before_lf-len.ensures.none,
      Consumes-part _ (g.R.Read.remaining reader) _ (g.R.BufRead.consumable_len reader) _ room len c.in-Ok.ensures.front held.0
          (rw c.in-Ok.is at held.1) c.consume-2.ensures.bytes c.before_lf-len.ensures.bound,
      items,
      past_by_one c.args.limit len before (take room shown) after items (rw c.args.line.now.ok.0 at c.requires.room)
          (front_fits room c.args.limit c.len.result (length before) shown c.min.ensures (c.len.ensures ∙ c.args.line.now.ok.0))
          (rw (c.len-2.ensures, c.extend_from_slice.new.self.ok.0) at c.if-len-limit.true),
    )

pub returns-clause-part : goal.returns-clause-part
returns-clause-part g c =
    let room = c.min.result in
    let len = c.before_lf-len.result in
    let shown = c.in-Ok.shown.now in
    let reader = c.show.follows.lender-at-none in
    let held = c.show.follows.holds-at-none in (
      take len (take room shown),
      c.before_lf-len.ensures.none,
      Consumes-part _ (g.R.Read.remaining reader) _ (g.R.BufRead.consumable_len reader) _ room len c.in-Ok.ensures.front held.0
          (rw c.in-Ok.is at held.1) c.consume-2.ensures.bytes c.before_lf-len.ensures.bound,
      c.in_ok-extend_from_slice.ensures.items,
      rw (c.len-2.ensures, c.extend_from_slice.new.self.ok.0) at c.if-len-limit.false,
      some_moved (take room shown) len c.before_lf-len.ensures.bound c.if-has_lf.false
          (grind (arith, nat_tests, c.is_empty-is_end.ensures, c.if-is_end.false)),
    )
