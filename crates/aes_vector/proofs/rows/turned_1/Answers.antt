use Rattle.std.proofs.Common.{[], ◌∷◌}
use Rattle.std.proofs.lemmas.Simd.{pick_l_left}
use Rattle.aes_vector.specs.Turned.{turned}
use Rattle.aes_vector.proofs.rows.turned_1.Goals as goal

pub returns : goal.returns
unfolding turned
returns c = pick_l_left 0 c.args.v c.args.v 16 (1 ∷ 2 ∷ 3 ∷ 0 ∷ 5 ∷ 6 ∷ 7 ∷ 4 ∷ 9 ∷ 10 ∷ 11 ∷ 8 ∷ 13 ∷ 14 ∷ 15 ∷ 12 ∷ []) c.fits-v.0 tt
