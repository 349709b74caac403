-- Two answers or tests that cannot both be. Here a tactic has nothing else to read; in an answer it reads all that the call knows.
use Rattle.std.proofs.Common.{◌≡◌, Bool, true, false, Result, Ok, Err, IsErr, IsErrAnd, IsOkUnless, ap}
use Rattle.key_wrap_core.specs.declared.faults.InPlaceFault.{InPlaceFault}
use Rattle.key_wrap_core.specs.declared.faults.InPlaceFault.TheVariants.{BadLength, Integrity}

pub ok_or_err : {A F P : Type 0} {v : A} {fault : F} → Ok v ≡ Err fault → P
ok_or_err e = cc

pub true_or_false : {P : Type 0} {b : Bool} → b ≡ false → b ≡ true → P
true_or_false e f = cc

pub never_bad : {A P : Type 0} (answer : Result A InPlaceFault) → IsOkUnless answer Integrity → answer ≡ Err BadLength → P
never_bad (Ok m) only e = cc
never_bad (Err BadLength) only e = cc
never_bad (Err Integrity) only e = cc

-- a fault that `?` passes on
pub passed_on : {A F : Type 0} (answer : Result A F) (fault : F) → IsErr answer × IsErrAnd answer (λ e. e ≡ fault) → answer ≡ Err fault
passed_on (Ok m) fault is = let no = is.0 in cc
passed_on {F = F} (Err e) fault is = ap (λ (f : F). Err f) is.1
