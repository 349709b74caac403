use Rattle.aes_vector.proofs.KeyForms.{mixed_form}
use Rattle.aes_vector.proofs.keys.inv_mixed.Goals as goal

pub returns : goal.returns
returns c =
    mixed_form c.args.key c.fits-key c.linear-fourteen.ensures c.linear-eleven.ensures c.linear-thirteen.ensures c.linear-nine.ensures
    c.turned_1.ensures c.turned_2.ensures c.turned_3.ensures
