use Rattle.std.proofs.Common.{map, slice_index, ap, ◌∙◌}
use Rattle.fips197.specs.Rounds.{inv_shift_rows}
use Rattle.aes_vector.specs.Turned.{turned}
use Rattle.aes_vector.proofs.rows.inv_rows_3.Goals as goal
use Rattle.std.proofs.Common.{refl}

pub lookup-requires : goal.lookup-requires
lookup-requires c = rw c.requires (
  refl,
  (
    refl,
    (refl, (refl, (refl, (refl, (refl, (refl, (refl, (refl, (refl, (refl, (refl, (refl, (refl, (refl, tt)))))))))))))),
  ),
)

pub returns : goal.returns
unfolding inv_shift_rows turned
returns c = c.lookup.ensures ∙ ap (map (slice_index c.args.v)) c.requires
