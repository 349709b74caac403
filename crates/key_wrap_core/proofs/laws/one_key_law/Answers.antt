-- The registers are unwrapped to one initial value and one key.
use Rattle.key_wrap_core.proofs.Spelling.{word_front}
use Rattle.key_wrap_core.proofs.Tapes.{wraps_iv, registers_backward}
use Rattle.key_wrap_core.proofs.PlainForm.{plain_registers}
use Rattle.key_wrap_core.proofs.PaddedForm.{padded_only_key}
use Rattle.key_wrap_core.proofs.laws.one_key_law.Goals as goal

pub returns-clause-plain : goal.returns-clause-plain
returns-clause-plain c = λ E D iv other_iv key other text inv h k.
    word_front other_iv iv other key (wraps_iv k.wraps) (wraps_iv h.wraps) (registers_backward inv (plain_registers k) (plain_registers h))

pub returns-clause-padded : goal.returns-clause-padded
returns-clause-padded c = λ E D key other text inv h k. padded_only_key inv h k
