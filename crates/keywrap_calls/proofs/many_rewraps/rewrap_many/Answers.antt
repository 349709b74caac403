-- The pairs are AES under the KEKs (`from`, `to`).
use Rattle.std.proofs.Common.{◌≡◌, refl, sym}
use Rattle.keywrap_calls.specs.Keks.{aes_of}
use Rattle.keywrap_calls.specs.Rewraps.{AreKeks}
use Rattle.keywrap_calls.proofs.Slots.{many_done}
use Rattle.keywrap_calls.proofs.many_rewraps.rewrap_many.Goals as goal

pub returns : goal.returns
returns g c =
    let from : g.A.BlockPair.encrypted c.in-Some.old ≡ aes_of c.args.old_kek.now = c.in-Some.ensures.cipher in
    let to : g.A.BlockPair.encrypted c.in-Some-aes_of.new ≡ aes_of c.args.new_kek.now = c.in-Some-aes_of.ensures.cipher in
    let keks : AreKeks c.args.old_kek.now c.args.new_kek.now = (c.in-Some.ensures.accepted.0 refl, c.in-Some-aes_of.ensures.accepted.0 refl) in
    let slots = c.in-Some-rewrap_slots_of.ensures.some in
    many_done _ _ _ _ _ keks slots.0
    (λ i below. rw (sym slots.2, sym from, sym to) (c.rewrap_slots.ensures c.args.old_kek.now c.args.new_kek.now c.args.flags keks slots.1 i below))
