-- What is promised of a rewrapping that takes memory, at each result of the call in its buffer.
use Rattle.std.proofs.Common.{◌≡◌, ℕ, List, false, Result, Ok, Err, Vec, IfOk, refl}
use Rattle.block_pair.specs.Pair.{AreInverse}
use Rattle.key_wrap_core.specs.declared.rewrapping.RewrapForms.{RewrapForms}
use Rattle.key_wrap_core.specs.declared.rewrapping.RewrapForms.TheVariants.{Changed}
use Rattle.key_wrap_core.specs.declared.faults.Refusal.{Refusal}
use Rattle.key_wrap_core.specs.declared.faults.Refusal.TheVariants.{BadLength, Integrity, KeyNotPlain}
use Rattle.key_wrap_core.specs.declared.rewrapping.Rewrapped.{Rewrapped}
use Rattle.key_wrap_core.specs.declared.rewrapping.Rewrapped.TheVariants.{Fresh, AlreadyNew}
use Rattle.key_wrap_core.specs.declared.forms.Form.{Form}
use Rattle.key_wrap_core.specs.declared.agreed_form.AgreedForm.{AgreedForm}
use Rattle.key_wrap_core.specs.Plain.{default_iv}
use Rattle.key_wrap_core.specs.Forms.{NoOtherForm, by_default}
use Rattle.key_wrap_core.specs.Rewrap.{RewrapResults}
use Rattle.key_wrap_core.proofs.PlainForm.{default_free}
use Rattle.key_wrap_core.proofs.EitherForms.{no_other_form}
use Rattle.key_wrap.specs.declared.faults.UnwrapFault.{UnwrapFault}
use Rattle.key_wrap.specs.declared.faults.UnwrapFault.TheVariants.{Memory}
use Rattle.key_wrap.specs.Results.{IsAnswerOf, RewrapsToVec, rewrap_fault}

-- the call in the buffer takes no memory
pub no_memory : (fault : Refusal) → ¬ (rewrap_fault fault ≡ Memory)
no_memory BadLength = λ e. cc
no_memory Integrity = λ e. cc
no_memory KeyNotPlain = λ e. cc

-- a fresh wrapping is none in the other form
other_form : {Z : Type 0} {D : List ℕ → List ℕ} (form : Form) (old : AgreedForm) (E F : List ℕ → List ℕ) (text : List ℕ) (out : Vec ℕ Z)
    (result : Result Rewrapped Refusal) (after : List ℕ) → AreInverse F D
    → RewrapResults false (Changed old (by_default form)) E F text result after → IsAnswerOf result after (Ok out)
    → NoOtherForm (by_default form) F out.items
other_form form old E F text out (Ok Fresh) after inv results is =
    let good = results.fresh.0 refl in
    rw is (no_other_form default_iv form good.1 after inv default_free ((results.same_key refl good.0 good.2.from good.1).1 good.2.wrapping))
other_form form old E F text out (Ok AlreadyNew) after inv results is = absurd (let no = (results.already_new.0 refl).0 in cc)
other_form form old E F text out (Err fault) after inv results is = cc

-- and so the new wrapping is none
pub new_form_only : {Z : Type 0} {D : List ℕ → List ℕ} (form : Form) (old : AgreedForm) (E F : List ℕ → List ℕ) (text : List ℕ)
    (answer : Result (Vec ℕ Z) UnwrapFault) → AreInverse F D → RewrapsToVec (Changed old (by_default form)) E F text answer
    → IfOk answer (λ out. NoOtherForm (by_default form) F out.items)
new_form_only form old E F text (Ok out) inv is =
    let found = is.results (λ e. cc) in
    other_form form old E F text out found.0 found.1 inv found.2 found.3
new_form_only form old E F text (Err e) inv is = tt
