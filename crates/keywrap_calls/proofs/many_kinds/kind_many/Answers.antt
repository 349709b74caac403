-- The pair is AES under the KEK (`under`), and a slot is 8 bytes longer than the scratch buffer.
use Rattle.std.proofs.Common.{◌≡◌, refl, sym}
use Rattle.keywrap_calls.specs.Keks.{IsKek, aes_of}
use Rattle.keywrap_calls.proofs.Slots.{many_done}
use Rattle.keywrap_calls.proofs.many_kinds.kind_many.Goals as goal

pub returns-clause-finds : goal.returns-clause-finds
returns-clause-finds g c =
    let under : g.A.BlockPair.encrypted c.in-Some.aes ≡ aes_of c.args.kek.now = c.in-Some.ensures.cipher in
    let legal_kek : IsKek c.args.kek.now = c.in-Some.ensures.accepted.0 refl in
    let legal = c.are_kind_slots.ensures.is.0 c.if-not-are_kind_slots.false in
    many_done _ _ _ _ _ legal_kek legal
    (λ i below. rw (legal.2, sym under) (c.kind_slots.ensures.finds c.args.kek.now legal_kek i below))
