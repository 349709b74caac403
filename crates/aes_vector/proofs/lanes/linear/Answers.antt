use Rattle.std.proofs.Common.{bit_xor, slice_index}
use Rattle.std.proofs.lemmas.Simd.{zip2_of_maps}
use Rattle.aes_vector.specs.Tower.{low, high}
use Rattle.aes_vector.proofs.Vectors.{each_place, looks}
use Rattle.aes_vector.proofs.Computed.{low-places, high-places}
use Rattle.aes_vector.proofs.lanes.linear.Goals as goal

pub lookup-requires : goal.lookup-requires
lookup-requires c = each_place low c.args.v _ low-places c.fits-v.1 c.low.ensures

pub lookup-requires-2 : goal.lookup-requires-2
lookup-requires-2 c = each_place high c.args.v _ high-places c.fits-v.1 c.high.ensures

pub returns : goal.returns
returns c =
    let v = c.args.v in
    zip2_of_maps bit_xor (λ x. slice_index c.args.by_low (low x)) (λ x. slice_index c.args.by_high (high x)) v
    (looks c.args.by_low low v c.lookup.ensures c.low.ensures) (looks c.args.by_high high v c.lookup-2.ensures c.high.ensures)
