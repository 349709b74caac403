-- The buffer holds the text, so the promise of the call in place carries over.
use Rattle.std.proofs.Common.{rules, ◌≡◌, ℕ, List, length, Ok, Err, arith, refl, ◌∙◌}
use Rattle.key_wrap_core.specs.declared.faults.Refusal.TheVariants.{BadLength}
use Rattle.key_wrap_core.specs.Rewrap.{IsOldLength}
use Rattle.key_wrap_core.proofs.Refusals.{passed_on, true_or_false}
use Rattle.key_wrap_core.proofs.Results.{results_of}
use Rattle.key_wrap.proofs.Promises.{written_back}
use Rattle.key_wrap.specs.Results.{rewrap_fault}
use Rattle.key_wrap.proofs.Rewraps.{no_memory}
use Rattle.key_wrap.proofs.rewrapping.rewrap_on.Goals as goal

pub returns-then-not-rewrap_length_ok : goal.returns-then-not-rewrap_length_ok
returns-then-not-rewrap_length_ok g c =
    let illegal : ¬ IsOldLength c.args.forms.now (length c.args.text.now) = λ legal. true_or_false c.if-not-rewrap_length_ok.true (c.rewrap_length_ok.ensures.1 legal) in
    record {
      memory = λ e. cc;
      results = λ some. (Err BadLength, _, results_of (g.met.O.BlockPair.lawful c.args.old.now.pair) ((illegal, λ no. absurd (true_or_false refl no)), refl), refl);
      size = tt;
    }

pub returns-in_err-rewrap : goal.returns-in_err-rewrap
returns-in_err-rewrap g c =
    let same : c.deref_mut.result.now ≡ c.args.text.now = c.deref_mut.ensures.value ∙ c.in_ok-buffer.ensures.items in
    let results = rw same at c.in_err-rewrap.ensures.results in
    rw (passed_on c.from_residual-in_err-rewrap.result (rewrap_fault c.in_err-rewrap.field-0.0) c.from_residual-in_err-rewrap.ensures) (record {
      memory = λ e. absurd (no_memory c.in_err-rewrap.field-0.0 (let own = e in cc));
      results = λ some. (Err c.in_err-rewrap.field-0.0, _, results, refl);
      size = tt;
    })

pub returns : goal.returns
returns g c =
    let same : c.deref_mut.result.now ≡ c.args.text.now = c.deref_mut.ensures.value ∙ c.in_ok-buffer.ensures.items in
    let new : List ℕ = c.rewrap.new.buf in
    let size : length new ≡ length c.args.text.now = search rules in
    let back = written_back c.in_ok-buffer.buffer.len new c.in_ok-buffer.buffer.items (omega arith) in
    let results = rw same at c.in_ok-rewrap.ensures.results in
    record {
      memory = λ e. cc;
      results = λ some. (Ok c.in_ok-rewrap.field-0, new, results, back);
      size = rw back size;
    }
