-- The slots before this one are unwrapped, and the others are as they were.
use Rattle.std.proofs.Common.{ℕ, List, get_or, pos}
use Rattle.keywrap_calls.specs.Keks.{IsKek}
use Rattle.keywrap_calls.specs.Many.{UnwrapsSlot}
use Rattle.keywrap_calls.proofs.Slots.{SlotsDone}
use Rattle.keywrap_calls.proofs.many_wraps.unwrap_slots.Given as goal

abbrev pub invariant-loop-slot : goal.invariant-loop-slot
invariant-loop-slot g l = SlotsDone (λ j a b. (kek : List ℕ) → IsKek kek
    → UnwrapsSlot l.form (g.B.BlockPair.encrypted l.pair) kek a b (get_or l.key_lens j 0) (pos (get_or l.statuses j 0)))
    l.len l.slot l.fn.texts l.texts
