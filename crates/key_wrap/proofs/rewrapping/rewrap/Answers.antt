-- The answer is a wrapping in the new form, and so none in the other.
use Rattle.std.proofs.Common.{ap}
use Rattle.key_wrap.proofs.Rewraps.{new_form_only}
use Rattle.key_wrap.proofs.rewrapping.rewrap.Goals as goal

pub returns-clause-rewraps : goal.returns-clause-rewraps
returns-clause-rewraps g c =
    rw (ap (λ m. m.pair) c.new-old.ensures, ap (λ m. m.pair) c.new-new.ensures, c.by_default-forms.ensures) at
    c.rewrap_on.ensures

pub returns-clause-other_form : goal.returns-clause-other_form
returns-clause-other_form g c =
    let is = returns-clause-rewraps g c in
    new_form_only c.args.new_form _ (g.O.BlockPair.encrypted c.args.old.now) (g.N.BlockPair.encrypted c.args.new.now) c.args.text.now c.rewrap_on.result
    (g.met.N.BlockPair.lawful c.args.new.now) is
