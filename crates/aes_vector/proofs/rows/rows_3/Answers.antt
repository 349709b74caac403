use Rattle.std.proofs.Common.{[], ◌∷◌}
use Rattle.std.proofs.lemmas.Simd.{pick_l_left}
use Rattle.fips197.specs.Rounds.{shift_rows}
use Rattle.aes_vector.specs.Turned.{turned}
use Rattle.aes_vector.proofs.rows.rows_3.Goals as goal

pub returns : goal.returns
unfolding shift_rows turned
returns c = pick_l_left 0 c.args.v c.args.v 16 (15 ∷ 0 ∷ 5 ∷ 10 ∷ 3 ∷ 4 ∷ 9 ∷ 14 ∷ 7 ∷ 8 ∷ 13 ∷ 2 ∷ 11 ∷ 12 ∷ 1 ∷ 6 ∷ []) c.fits-v.0 tt
