-- Under a KEK of a legal length a wrap has one of three statuses.
use Rattle.std.proofs.Common.{inl, rules}
use mir.Syntax.{w32}
use mir.Val.{SFits}
use Rattle.keywrap_calls.proofs.Slots.{some_kek, some_kek_legal, status_passed}
use Rattle.keywrap_calls.proofs.many_wraps.wrap_slot.Goals as goal

pub status_byte-requires : goal.status_byte-requires
status_byte-requires g c =
    let fits : SFits w32 c.wrap_under.result = search rules in
    status_passed fits (inl (c.wrap_under.ensures some_kek some_kek_legal).statuses)

pub status_byte-requires-in-Padded : goal.status_byte-requires-in-Padded
status_byte-requires-in-Padded g c =
    let fits : SFits w32 c.wrap_padded_under.result = search rules in
    status_passed fits (inl (c.wrap_padded_under.ensures some_kek some_kek_legal).statuses)
