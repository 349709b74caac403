-- A call that refuses only lengths gives what it promises if the lengths are legal.
use Rattle.std.proofs.Common.{Result, Ok, Err, OnOk, refl}
use Rattle.key_wrap_core.specs.BufferCalls.{RefusesLength}
use Rattle.key_wrap_core.specs.declared.faults.InPlaceFault.{InPlaceFault}
use Rattle.key_wrap_core.specs.declared.faults.InPlaceFault.TheVariants.{BadLength, Integrity}

pub given : {A Legal Same Q : Type 0} {result : Result A InPlaceFault} → RefusesLength Legal Same result → Legal → OnOk result Q → Q
given {result = Ok done} refused legal on = on
given {result = Err BadLength} refused legal on = absurd (refused.bad_length.0 refl legal)
given {result = Err Integrity} refused legal on = let no = refused.only_fault in cc
