use Rattle.aes_vector.proofs.KeyForms.{enc_form}
use Rattle.aes_vector.proofs.keys.enc_form.Goals as goal

pub returns-clause-form : goal.returns-clause-form
returns-clause-form c = enc_form c.args.key c.fits-key c.linear.ensures
