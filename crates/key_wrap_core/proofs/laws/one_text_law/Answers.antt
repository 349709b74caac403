use Rattle.key_wrap_core.proofs.PlainForm.{plain_only_text}
use Rattle.key_wrap_core.proofs.PaddedForm.{padded_only_text}
use Rattle.key_wrap_core.proofs.laws.one_text_law.Goals as goal

pub returns-clause-plain : goal.returns-clause-plain
returns-clause-plain c = λ E iv key text other h k. plain_only_text h k

pub returns-clause-padded : goal.returns-clause-padded
returns-clause-padded c = λ E key text other h k. padded_only_text h k
