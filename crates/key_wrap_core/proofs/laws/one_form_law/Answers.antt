-- The registers would hold both initial values.
use Rattle.key_wrap_core.proofs.BothForms.{not_both_forms}
use Rattle.key_wrap_core.proofs.laws.one_form_law.Goals as goal

pub returns : goal.returns
returns c = λ E D iv key other text inv free h k. not_both_forms inv free h k
