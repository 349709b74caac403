use Rattle.aes_vector.proofs.Starts.{first_state_of}
use Rattle.aes_vector.proofs.rounds.first_state.Goals as goal

pub returns : goal.returns
returns c = first_state_of c.args.key c.args.block c.fits-key c.fits-block c.enc_form.ensures.lanes
