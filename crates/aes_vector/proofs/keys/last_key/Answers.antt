use Rattle.aes_vector.proofs.KeyForms.{first_dec_form, last_enc_form}
use Rattle.aes_vector.proofs.keys.last_key.Goals as goal

pub returns : goal.returns
returns c = record { enc = last_enc_form c.args.key c.fits-key; dec = first_dec_form c.args.key c.fits-key c.linear.ensures }
