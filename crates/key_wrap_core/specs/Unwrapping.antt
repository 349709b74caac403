-- The promise of each call that unwraps in one form.
use Rattle.std.specs.Prelude.{◌≡◌, ◌↔◌, ℕ, List, Result, Err, IsOkUnless, IfOk, OnOk}
use Rattle.key_wrap_core.specs.declared.agreed_form.AgreedForm.{AgreedForm}
use Rattle.key_wrap_core.specs.declared.faults.InPlaceFault.{InPlaceFault}
use Rattle.key_wrap_core.specs.declared.faults.InPlaceFault.TheVariants.{BadLength}
use Rattle.key_wrap_core.specs.Forms.{IsWrapping, NoOtherForm}
use Rattle.key_wrap_core.specs.InPlace.{KeyAnswer}

-- The call unwraps this text in this form under E. A wrapping is refused only for its lengths. Wrapping
-- the key again gives the text, and in the other form the text is not a wrapping.
pub record Unwrapping {A : Type 0} (Legal : Type 0) (form : AgreedForm) (E : List ℕ → List ℕ) (text : List ℕ) (key : A → List ℕ)
    (result : Result A InPlaceFault) : Type 0 where
  pub bad_length : (result ≡ Err BadLength) ↔ ¬ Legal
  pub answer : KeyAnswer Legal (IsWrapping form E) text key result
  pub accepts : (other : List ℕ) → IsWrapping form E other text → IsOkUnless result BadLength
  pub only_key : IfOk result (λ m. (other : List ℕ) → IsWrapping form E other text → other ≡ key m)
  pub restores : IfOk result (λ m. (other : List ℕ) → IsWrapping form E (key m) other → other ≡ text)
  pub other_form : OnOk result (NoOtherForm form E text)
