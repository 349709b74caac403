use Rattle.aes_vector.specs.declared.tables.TheConstants.{S_I, S_J}
use Rattle.aes_vector.proofs.Vectors.{finds}
use Rattle.aes_vector.proofs.Unmixing.{last_round_of}
use Rattle.aes_vector.proofs.rounds.last_round.Goals as goal

pub returns : goal.returns
returns c =
    let at = c.inverted-at.ensures in
    last_round_of c.args.key c.args.state c.lookup_xor.result c.fits-key c.fits-state (finds S_I S_J c.args.state at.i at.j c.lookup_xor.ensures) c.rows_0.ensures
