use Rattle.aes_vector.proofs.Starts.{inv_first_state_of}
use Rattle.aes_vector.proofs.rounds.inv_first_state.Goals as goal

pub returns : goal.returns
returns c = inv_first_state_of c.args.key c.args.block c.fits-key c.fits-block c.linear.ensures
