use Rattle.key_wrap_core.proofs.Results.{one_result}
use Rattle.key_wrap_core.proofs.rewrapping.one_result_law.Goals as goal

pub returns : goal.returns
returns g c = λ pass_new forms text after other result other_result h k.
    one_result (g.N.BlockPair.encrypted c.args.new.now) pass_new forms text after other result other_result (g.met.O.BlockPair.lawful c.args.old.now) h k
