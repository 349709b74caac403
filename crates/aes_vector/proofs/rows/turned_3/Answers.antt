use Rattle.std.proofs.Common.{[], ◌∷◌}
use Rattle.std.proofs.lemmas.Simd.{pick_l_left}
use Rattle.aes_vector.specs.Turned.{turned}
use Rattle.aes_vector.proofs.rows.turned_3.Goals as goal

pub returns : goal.returns
unfolding turned
returns c = pick_l_left 0 c.args.v c.args.v 16 (3 ∷ 0 ∷ 1 ∷ 2 ∷ 7 ∷ 4 ∷ 5 ∷ 6 ∷ 11 ∷ 8 ∷ 9 ∷ 10 ∷ 15 ∷ 12 ∷ 13 ∷ 14 ∷ []) c.fits-v.0 tt
