-- The results of the calls that allocate memory.
use Rattle.std.specs.Prelude.{◌≡◌, ◌↔◌, ℕ, false, List, length, Result, Ok, Err, IfOk, OnOk, IsOkUnless, Vec}
use Rattle.key_wrap_core.specs.declared.agreed_form.AgreedForm.{AgreedForm}
use Rattle.key_wrap_core.specs.declared.faults.InPlaceFault.{InPlaceFault}
use Rattle.key_wrap_core.specs.declared.faults.InPlaceFault.TheVariants as in_place
use Rattle.key_wrap_core.specs.declared.rewrapping.RewrapForms.{RewrapForms}
use Rattle.key_wrap_core.specs.declared.rewrapping.Rewrapped.{Rewrapped}
use Rattle.key_wrap_core.specs.declared.faults.Refusal.{Refusal}
use Rattle.key_wrap_core.specs.declared.faults.Refusal.TheVariants as rewraps
use Rattle.key_wrap_core.specs.NoKey.{NoKey}
use Rattle.key_wrap_core.specs.Forms.{IsWrapping, IsKeyLengthAs, IsTextLengthAs, NoOtherForm}
use Rattle.key_wrap_core.specs.Rewrap.{IsOldLength, RewrapResults}
use Rattle.key_wrap.specs.declared.faults.UnwrapFault.{UnwrapFault}
use Rattle.key_wrap.specs.declared.faults.UnwrapFault.TheVariants.{BadLength, Integrity, Memory}
use Rattle.key_wrap.specs.declared.faults.WrapFault.{WrapFault}
use Rattle.key_wrap.specs.declared.faults.WrapFault.TheVariants as wrap_faults

-- the fault of a call that takes memory, if the call in its buffer refuses
abbrev pub unwrap_fault : InPlaceFault → UnwrapFault
unwrap_fault in_place.BadLength = BadLength
unwrap_fault in_place.Integrity = Integrity

-- The result of an unwrap in a form, under E. BadLength if the length of the text is not legal. Otherwise the key, or
-- Integrity if there is none, or Memory.
abbrev pub UnwrapAnswer : {Z : Type 0} → AgreedForm → (List ℕ → List ℕ) → List ℕ → Result (Vec ℕ Z) UnwrapFault → Type 0
UnwrapAnswer form E text (Ok key) = IsTextLengthAs form (length text) × IsWrapping form E key.items text
UnwrapAnswer form E text (Err BadLength) = ¬ IsTextLengthAs form (length text)
UnwrapAnswer form E text (Err Integrity) = IsTextLengthAs form (length text) × NoKey (IsWrapping form E) text
UnwrapAnswer form E text (Err Memory) = IsTextLengthAs form (length text)

-- The promise of each wrapping call that allocates memory: the result is the only wrapping of the key in this form under E,
-- and not a wrapping in the other form.
pub record Wrapped {Z : Type 0} (form : AgreedForm) (E : List ℕ → List ℕ) (key : List ℕ) (result : Result (Vec ℕ Z) WrapFault) : Type 0 where
  pub bad_length : (result ≡ Err wrap_faults.BadLength) ↔ ¬ IsKeyLengthAs form (length key)
  pub memory : result ≡ Err wrap_faults.Memory → IsKeyLengthAs form (length key)
  pub answer : IfOk result (λ text. IsWrapping form E key text.items)
  pub only_text : IfOk result (λ text. (other : List ℕ) → IsWrapping form E key other → other ≡ text.items)
  pub other_form : IfOk result (λ text. NoOtherForm form E text.items)

-- The promise of each unwrapping call that allocates memory. A wrapping is refused only if there is no memory. Wrapping the
-- key again gives the text, and in the other form the text is not a wrapping.
pub record Unwrapped {Z : Type 0} (form : AgreedForm) (E : List ℕ → List ℕ) (text : List ℕ) (result : Result (Vec ℕ Z) UnwrapFault) : Type 0 where
  pub bad_length : (result ≡ Err BadLength) ↔ ¬ IsTextLengthAs form (length text)
  pub answer : UnwrapAnswer form E text result
  pub accepts : (key : List ℕ) → IsWrapping form E key text → IsOkUnless result Memory
  pub only_key : IfOk result (λ key. (other : List ℕ) → IsWrapping form E other text → other ≡ key.items)
  pub restores : IfOk result (λ key. (other : List ℕ) → IsWrapping form E key.items other → other ≡ text)
  pub other_form : OnOk result (NoOtherForm form E text)

-- the fault of a rewrap that takes memory, if the call in its buffer refuses
abbrev pub rewrap_fault : Refusal → UnwrapFault
rewrap_fault rewraps.BadLength = BadLength
rewrap_fault rewraps.Integrity = Integrity
rewrap_fault rewraps.KeyNotPlain = BadLength

-- the answer that comes of the result of the call in its buffer, and of the buffer after it
abbrev pub IsAnswerOf : {Z : Type 0} → Result Rewrapped Refusal → List ℕ → Result (Vec ℕ Z) UnwrapFault → Type 0
IsAnswerOf (Ok done) after (Ok out) = out.items ≡ after
IsAnswerOf (Ok done) after (Err fault) = ⊥
IsAnswerOf (Err fault) after answer = answer ≡ Err (rewrap_fault fault)

-- The promise about the result of a rewrap that takes memory: the result of the call in its buffer, or there was no memory for a
-- text of a legal length.
pub record RewrapsToVec {Z : Type 0} (forms : RewrapForms) (E F : List ℕ → List ℕ) (text : List ℕ) (answer : Result (Vec ℕ Z) UnwrapFault) : Type 0 where
  pub memory : answer ≡ Err Memory → IsOldLength forms (length text)
  pub results : ¬ (answer ≡ Err Memory) → (result : Result Rewrapped Refusal) × (after : List ℕ)
      × RewrapResults false forms E F text result after × IsAnswerOf result after answer
  pub size : IfOk answer (λ out. length out.items ≡ length text)
