use Rattle.aes_vector.proofs.keys.middle_key.Goals as goal

pub returns : goal.returns
returns c = record { enc = c.enc_form.ensures.form; dec = c.inv_mixed.ensures }
