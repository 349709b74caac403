-- The wrappings before this one have begun, and the other texts are as they were.
use Rattle.std.proofs.Common.{ℕ, List, take, drop}
use Rattle.key_wrap_core.specs.Padded.{aiv, padded}
use Rattle.key_wrap_core.specs.Steps.{WrapState}
use Rattle.key_wrap_lanes.proofs.Parts.{PartsChanged}
use Rattle.lane_runs.proofs.wraps.pad_lanes.Given as goal

abbrev pub invariant-loop-lane : goal.invariant-loop-lane
invariant-loop-lane l = PartsChanged (λ j text block text' block'. (E : List ℕ → List ℕ)
    → WrapState E (aiv l.key_len) (padded (take l.key_len (drop 8 text))) 0 (drop 8 text') block')
    l.text_len 16 l.lane l.fn.texts l.fn.blocks l.texts l.blocks
