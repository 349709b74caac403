-- A call that cannot have refused.
use Rattle.std.proofs.Common.{◌≡◌, Result, Ok, Err, OnOk, IsOkUnless}
use Rattle.key_wrap_core.specs.declared.faults.InPlaceFault.{InPlaceFault}
use Rattle.key_wrap_core.specs.declared.faults.InPlaceFault.TheVariants.{BadLength, Integrity}

pub not_bad : {A P : Type 0} (answer : Result A InPlaceFault) → IsOkUnless answer BadLength → ¬ (answer ≡ Err BadLength) → OnOk answer P → P
not_bad (Ok m) only good p = p
not_bad (Err BadLength) only good p = absurd (good cc)
not_bad (Err Integrity) only good p = cc
