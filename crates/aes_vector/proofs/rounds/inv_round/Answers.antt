use Rattle.aes_vector.specs.declared.tables.TheConstants.{NINE_I, NINE_J, ELEVEN_I, ELEVEN_J, THIRTEEN_I, THIRTEEN_J, FOURTEEN_I, FOURTEEN_J}
use Rattle.aes_vector.proofs.Vectors.{finds}
use Rattle.aes_vector.proofs.Unmixing.{inv_round_of}
use Rattle.aes_vector.proofs.rounds.inv_round.Goals as goal

pub returns : goal.returns
returns c =
    let s = c.args.state in
    let at = c.inverted-at.ensures in
    inv_round_of c.args.key s c.lookup_xor-fourteen.result c.lookup_xor-eleven.result c.lookup_xor-thirteen.result c.lookup_xor-nine.result c.fits-key c.fits-state
    (finds FOURTEEN_I FOURTEEN_J s at.i at.j c.lookup_xor-fourteen.ensures)
    (finds ELEVEN_I ELEVEN_J s at.i at.j c.lookup_xor-eleven.ensures)
    (finds THIRTEEN_I THIRTEEN_J s at.i at.j c.lookup_xor-thirteen.ensures)
    (finds NINE_I NINE_J s at.i at.j c.lookup_xor-nine.ensures)
    c.inv_rows_0.ensures c.inv_rows_1.ensures c.inv_rows_2.ensures c.inv_rows_3.ensures
