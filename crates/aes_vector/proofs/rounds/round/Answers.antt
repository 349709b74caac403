use Rattle.std.proofs.Common.{bit_xor}
use Rattle.std.proofs.lemmas.Simd.{zip2_of_maps}
use Rattle.aes_vector.specs.declared.tables.TheConstants.{ONE_I, ONE_J, TWO_I, TWO_J}
use Rattle.aes_vector.proofs.Vectors.{finds}
use Rattle.aes_vector.proofs.RoundLanes.{one, two}
use Rattle.aes_vector.proofs.Mixing.{round_of}
use Rattle.aes_vector.proofs.rounds.round.Goals as goal

pub returns : goal.returns
returns c =
    let s = c.args.state in
    let at = c.inverted-at.ensures in
    let e1 = finds ONE_I ONE_J s at.i at.j c.lookup_xor-one.ensures in
    let e2 = finds TWO_I TWO_J s at.i at.j c.lookup_xor-two.ensures in
    round_of c.args.key s c.lookup_xor-one.result c.lookup_xor-two.result _ c.fits-key c.fits-state e1 e2 (zip2_of_maps bit_xor one two s e1 e2)
    c.rows_0.ensures c.rows_1.ensures c.rows_2.ensures c.rows_3.ensures
