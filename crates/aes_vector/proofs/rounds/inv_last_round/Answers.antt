use Rattle.aes_vector.specs.declared.tables.TheConstants.{INV_S_I, INV_S_J}
use Rattle.aes_vector.proofs.Vectors.{finds}
use Rattle.aes_vector.proofs.Unmixing.{inv_last_round_of}
use Rattle.aes_vector.proofs.rounds.inv_last_round.Goals as goal

pub returns : goal.returns
returns c =
    let at = c.inverted-at.ensures in
    inv_last_round_of c.args.key c.args.state c.lookup_xor-found.result c.fits-key c.fits-state
    (finds INV_S_I INV_S_J c.args.state at.i at.j c.lookup_xor-found.ensures) c.inv_rows_0.ensures
