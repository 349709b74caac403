use Rattle.aes_vector.specs.declared.tables.TheConstants.{S_I, S_J}
use Rattle.aes_vector.proofs.Vectors.{finds}
use Rattle.aes_vector.proofs.KeyForms.{substituted_of}
use Rattle.aes_vector.proofs.expansion.substituted.Goals as goal

pub returns : goal.returns
returns c =
    let at = c.inverted-at.ensures in
    substituted_of c.args.bytes c.fits-bytes c.linear.ensures (finds S_I S_J c.linear.result at.i at.j c.lookup_xor.ensures)
