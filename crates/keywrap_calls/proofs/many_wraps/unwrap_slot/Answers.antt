-- Under a KEK of a legal length an unwrap has one of four statuses.
use Rattle.std.proofs.Common.{rules}
use mir.Syntax.{w32}
use mir.Val.{SFits}
use Rattle.keywrap_calls.proofs.Slots.{some_kek, some_kek_legal, status_passed}
use Rattle.keywrap_calls.proofs.many_wraps.unwrap_slot.Goals as goal

pub status_byte-requires : goal.status_byte-requires
status_byte-requires g c =
    let fits : SFits w32 c.unwrap_padded_under-status.result = search rules in
    status_passed fits (c.unwrap_padded_under-status.ensures.unwraps some_kek some_kek_legal).statuses
