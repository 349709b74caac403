-- An unwrapping in either form that found no key.
use Rattle.std.proofs.Common.{◌≡◌, ℕ, List, Err, refl}
use Rattle.key_wrap_core.specs.declared.faults.InPlaceFault.{InPlaceFault}
use Rattle.key_wrap_core.specs.declared.faults.InPlaceFault.TheVariants.{BadLength, Integrity}
use Rattle.key_wrap_core.specs.declared.forms.FoundKey.{FoundKey}
use Rattle.key_wrap_core.specs.BufferCalls.{UnwrappingEither}
use Rattle.key_wrap_core.specs.EitherForm.{IsEither, NoKeyIn}

pub no_key : {Legal : Type 0} {iv : ℕ} {E : List ℕ → List ℕ} {text : List ℕ} {key : FoundKey → List ℕ} (fault : InPlaceFault)
    → UnwrappingEither Legal iv E text key (Err fault) → ¬ (fault ≡ BadLength) → NoKeyIn (IsEither iv) E text
no_key BadLength u other = absurd (other refl)
no_key Integrity u other = (u.integrity.0 refl).1
