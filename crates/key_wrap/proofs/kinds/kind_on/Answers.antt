-- What the call in the buffer promises, as one record.
use Rattle.std.proofs.Common.{rules}
use Rattle.key_wrap_core.proofs.KindForms.{kind_illegal}
use Rattle.key_wrap.proofs.kinds.kind_on.Goals as goal

pub returns-then-not-padded_text_length_ok-clause-kind : goal.returns-then-not-padded_text_length_ok-clause-kind
returns-then-not-padded_text_length_ok-clause-kind g c =
    kind_illegal c.args.iv.now c.args.text.now (g.met.B.BlockPair.lawful c.args.meter.now.pair) (search rules)

pub returns-clause-kind : goal.returns-clause-kind
returns-clause-kind g c =
    (rw c.unwrap.ensures at c.kind_into_with.ensures).kind
