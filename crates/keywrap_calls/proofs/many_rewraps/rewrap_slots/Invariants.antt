-- The slots before this one are rewrapped, and the others are as they were.
use Rattle.std.proofs.Common.{ℕ, List, get_or}
use Rattle.keywrap_calls.specs.Rewraps.{AreKeks, Requests}
use Rattle.keywrap_calls.specs.Many.{RewrapsSlot}
use Rattle.keywrap_calls.proofs.Slots.{SlotsDone}
use Rattle.keywrap_calls.proofs.many_rewraps.rewrap_slots.Given as goal

abbrev pub invariant-loop-slot : goal.invariant-loop-slot
invariant-loop-slot g l = SlotsDone (λ j a b. (old_kek new_kek : List ℕ) (flags : ℕ) → AreKeks old_kek new_kek → Requests flags l.request
    → RewrapsSlot (g.O.BlockPair.encrypted l.old) (g.N.BlockPair.encrypted l.new) old_kek new_kek flags a b (get_or l.statuses j 0))
    l.len l.slot l.fn.texts l.texts
