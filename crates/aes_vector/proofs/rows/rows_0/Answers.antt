use Rattle.std.proofs.Common.{[], ◌∷◌}
use Rattle.std.proofs.lemmas.Simd.{pick_l_left}
use Rattle.fips197.specs.Rounds.{shift_rows}
use Rattle.aes_vector.proofs.rows.rows_0.Goals as goal

pub returns : goal.returns
unfolding shift_rows
returns c = pick_l_left 0 c.args.v c.args.v 16 (0 ∷ 5 ∷ 10 ∷ 15 ∷ 4 ∷ 9 ∷ 14 ∷ 3 ∷ 8 ∷ 13 ∷ 2 ∷ 7 ∷ 12 ∷ 1 ∷ 6 ∷ 11 ∷ []) c.fits-v.0 tt
