use Rattle.std.proofs.Common.{bit_xor, slice_index}
use Rattle.std.proofs.lemmas.Simd.{zip2_of_maps}
use Rattle.aes_vector.specs.declared.tables.TheConstants.{INV, INVA}
use Rattle.aes_vector.specs.Tower.{low, high, other}
use Rattle.aes_vector.specs.Tables.{over_i, over_j, place_i, place_j}
use Rattle.aes_vector.proofs.Vectors.{each_place, looks}
use Rattle.aes_vector.proofs.Computed.{low-places, high-places, other-places, over_i-places, over_j-places, place_i-places, place_j-places}
use Rattle.aes_vector.proofs.tower.inverted.Goals as goal

pub lookup-scaled-requires : goal.lookup-scaled-requires
lookup-scaled-requires c = each_place low c.args.y _ low-places c.fits-y.1 c.low-k.ensures

pub lookup-requires : goal.lookup-requires
lookup-requires c = each_place high c.args.y _ high-places c.fits-y.1 c.high-i.ensures

pub lookup-requires-2 : goal.lookup-requires-2
lookup-requires-2 c = each_place other c.args.y _ other-places c.fits-y.1 (zip2_of_maps bit_xor high low c.args.y c.high-i.ensures c.low-k.ensures)

pub lookup-requires-3 : goal.lookup-requires-3
unfolding over_i
lookup-requires-3 c =
    each_place over_i c.args.y _ over_i-places c.fits-y.1
    (zip2_of_maps bit_xor (λ x. slice_index INV (high x)) (λ x. slice_index INVA (low x)) c.args.y
    (looks INV high c.args.y c.lookup.ensures c.high-i.ensures) (looks INVA low c.args.y c.lookup-scaled.ensures c.low-k.ensures))

pub lookup-requires-4 : goal.lookup-requires-4
unfolding over_j
lookup-requires-4 c =
    let y = c.args.y in
    let j = zip2_of_maps bit_xor high low y c.high-i.ensures c.low-k.ensures in
    each_place over_j y _ over_j-places c.fits-y.1
    (zip2_of_maps bit_xor (λ x. slice_index INV (other x)) (λ x. slice_index INVA (low x)) y
    (looks INV other y c.lookup-2.ensures j) (looks INVA low y c.lookup-scaled.ensures c.low-k.ensures))

pub returns-clause-i : goal.returns-clause-i
unfolding over_i place_i
returns-clause-i c =
    let y = c.args.y in
    let j = zip2_of_maps bit_xor high low y c.high-i.ensures c.low-k.ensures in
    let over =
    zip2_of_maps bit_xor (λ x. slice_index INV (high x)) (λ x. slice_index INVA (low x)) y
    (looks INV high y c.lookup.ensures c.high-i.ensures) (looks INVA low y c.lookup-scaled.ensures c.low-k.ensures) in
    zip2_of_maps bit_xor (λ x. slice_index INV (over_i x)) other y (looks INV over_i y c.lookup-3.ensures over) j

pub returns-clause-j : goal.returns-clause-j
unfolding over_j place_j
returns-clause-j c =
    let y = c.args.y in
    let j = zip2_of_maps bit_xor high low y c.high-i.ensures c.low-k.ensures in
    let over =
    zip2_of_maps bit_xor (λ x. slice_index INV (other x)) (λ x. slice_index INVA (low x)) y
    (looks INV other y c.lookup-2.ensures j) (looks INVA low y c.lookup-scaled.ensures c.low-k.ensures) in
    zip2_of_maps bit_xor (λ x. slice_index INV (over_j x)) high y (looks INV over_j y c.lookup-4.ensures over) c.high-i.ensures

pub returns-clause-places_i : goal.returns-clause-places_i
returns-clause-places_i c = each_place place_i c.args.y _ place_i-places c.fits-y.1 (returns-clause-i c)

pub returns-clause-places_j : goal.returns-clause-places_j
returns-clause-places_j c = each_place place_j c.args.y _ place_j-places c.fits-y.1 (returns-clause-j c)
