use Rattle.std.proofs.Common.{refl}
use Rattle.aes_vector.proofs.keys.first_key.Goals as goal

pub returns : goal.returns
returns c = record { enc = c.enc_form.ensures.form; dec = refl }
