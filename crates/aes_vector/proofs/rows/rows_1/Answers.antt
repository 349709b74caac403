use Rattle.std.proofs.Common.{[], ◌∷◌}
use Rattle.std.proofs.lemmas.Simd.{pick_l_left}
use Rattle.fips197.specs.Rounds.{shift_rows}
use Rattle.aes_vector.specs.Turned.{turned}
use Rattle.aes_vector.proofs.rows.rows_1.Goals as goal

pub returns : goal.returns
unfolding shift_rows turned
returns c = pick_l_left 0 c.args.v c.args.v 16 (5 ∷ 10 ∷ 15 ∷ 0 ∷ 9 ∷ 14 ∷ 3 ∷ 4 ∷ 13 ∷ 2 ∷ 7 ∷ 8 ∷ 1 ∷ 6 ∷ 11 ∷ 12 ∷ []) c.fits-v.0 tt
