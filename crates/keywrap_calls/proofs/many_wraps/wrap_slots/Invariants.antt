-- The slots before this one are wrapped, and the others are as they were.
use Rattle.std.proofs.Common.{ℕ, List, get_or, pos}
use Rattle.keywrap_calls.specs.Keks.{IsKek}
use Rattle.keywrap_calls.specs.Many.{WrapsSlot}
use Rattle.keywrap_calls.proofs.Slots.{SlotsDone}
use Rattle.keywrap_calls.proofs.many_wraps.wrap_slots.Given as goal

abbrev pub invariant-loop-slot : goal.invariant-loop-slot
invariant-loop-slot g l = SlotsDone (λ j a b. (kek : List ℕ) → IsKek kek
    → WrapsSlot l.form (g.B.BlockPair.encrypted l.pair) kek l.key_len a b (pos (get_or l.statuses j 0))) l.len l.slot l.fn.texts l.texts
