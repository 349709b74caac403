-- What is found of the slots before this one, of which each left the scratch buffer zero.
use Rattle.std.proofs.Common.{◌≡◌, ◌<◌, ℕ, List, get_or, pos, All}
use Rattle.keywrap_calls.specs.Keks.{IsKek}
use Rattle.keywrap_calls.specs.Many.{FindsSlot, slot_at}
use Rattle.keywrap_calls.proofs.many_kinds.kind_slots.Given as goal

abbrev pub invariant-loop-slot : goal.invariant-loop-slot
invariant-loop-slot g l = record {
  found : (j : ℕ) → j < l.slot → (kek : List ℕ) → IsKek kek
      → FindsSlot (g.B.BlockPair.encrypted l.pair) kek (slot_at l.len j l.texts) (get_or l.forms j 0) (get_or l.key_lens j 0)
      (pos (get_or l.statuses j 0));
  cleared : 0 < l.slot → All (λ byte. byte ≡ 0) l.scratch;
}
