-- The number means the phase, and the flags request the forms.
use Rattle.std.proofs.Common.{rules, ◌≡◌, ◌∙◌, sym, refl}
use mir.Syntax.{w32}
use mir.Val.{SFits}
use Rattle.keywrap_calls.proofs.CallPromises.{passed_on}
use Rattle.keywrap_calls.proofs.Rewraps.{ok_or_err, some_same}
use Rattle.keywrap_calls.proofs.rewrap_steps.next_rewrap.Goals as goal

pub returns-in-Ok : goal.returns-in-Ok
returns-in-Ok c =
    let run = rw c.in-Some.is at c.run_of-found.ensures.some in
    let named = run.0 in
    let told = rw (named.1, named.2) at c.in-Ok.ensures.ends_phase in
    let fits : SFits w32 c.report_next.result = search rules in
    record {
      ends_phase = λ phase ended.
          let same : c.in-Some.run' ≡ phase = some_same (sym run.1 ∙ ended.1) in
          (c.in-Ok.next, rw (passed_on fits refl) c.report_next.ensures, rw same at c.in-Ok.ensures.advances, rw same at told);
      refused = λ none.
          let bad = c.next_rewrap.ensures.refused.bad_length.1
          (λ legal. none c.in-Some.run' (named.0, run.1, legal.0, legal.1)) in
          ok_or_err (sym c.in-Ok.is ∙ bad);
    }
