-- The promises of the calls that begin a wrapping or an unwrapping, make a step and end it, for an E outside the program.
use Rattle.std.specs.Prelude.{◌≡◌, ℕ, ◌+◌, List, ◌++◌, length, Result}
use Rattle.block_pair.specs.Pair.{AreInverse}
use Rattle.key_wrap_core.specs.declared.agreed_form.AgreedForm.{AgreedForm}
use Rattle.key_wrap_core.specs.declared.forms.FoundKey.{FoundKey}
use Rattle.key_wrap_core.specs.declared.faults.InPlaceFault.{InPlaceFault}
use Rattle.key_wrap_core.specs.Lengths.{IsPlainKeyLength, IsPaddedKeyLength, IsPaddedTextLength}
use Rattle.key_wrap_core.specs.Plain.{Plain}
use Rattle.key_wrap_core.specs.Padded.{Padded, aiv, padded}
use Rattle.key_wrap_core.specs.BlockCalls.{block_calls}
use Rattle.key_wrap_core.specs.Forms.{IsTextLengthAs}
use Rattle.key_wrap_core.specs.Steps.{WrapState, UnwrapState}
use Rattle.key_wrap_core.specs.Unwrapping.{Unwrapping}
use Rattle.key_wrap_core.specs.BufferCalls.{UnwrappingEither}

-- A wrapping is begun: no step is done, for every E.
pub record WrapBegun (iv : ℕ) (key : List ℕ) (done : ℕ) (registers block : List ℕ) : Type 0 where
  pub none_done : done ≡ 0
  pub begins : (E : List ℕ → List ℕ) → WrapState E iv key 0 registers block

-- A step of a wrapping, for every E: if the block is E of the last one, t' steps are done after t.
abbrev pub IsWrapStep : (t t' : ℕ) (registers registers' block block' : List ℕ) → Type 0
IsWrapStep t t' registers registers' block block' = (E : List ℕ → List ℕ) (iv : ℕ) (key before : List ℕ)
    → WrapState E iv key t registers before → block ≡ E before → WrapState E iv key t' registers' block'

-- A wrapping is ended: if all steps are done, the first bytes and the registers are the wrapped key, for every E.
pub record WrapEnded (done : ℕ) (registers block first : List ℕ) : Type 0 where
  pub plain : (E : List ℕ → List ℕ) (iv : ℕ) (key : List ℕ) → IsPlainKeyLength (length key)
      → WrapState E iv key done registers block → Plain E iv key (first ++ registers)
  pub padded : (E : List ℕ → List ℕ) (key : List ℕ) → IsPaddedKeyLength (length key)
      → WrapState E (aiv (length key)) (padded key) done registers block → Padded E key (first ++ registers)

-- An unwrapping of the text that the first bytes and the registers are is begun: all its steps are left, for every E.
pub record UnwrapBegun (first : List ℕ) (left : ℕ) (registers block : List ℕ) : Type 0 where
  pub all_left : left ≡ block_calls (8 + length registers)
  pub begins : (E : List ℕ → List ℕ) → UnwrapState E (first ++ registers) left registers block

-- A step undone, for every E: if E takes the block to the last one, t' steps are left after t.
abbrev pub IsUnwrapStep : (t t' : ℕ) (registers registers' block block' : List ℕ) → Type 0
IsUnwrapStep t t' registers registers' block block' = (E : List ℕ → List ℕ) (text before : List ℕ)
    → UnwrapState E text t registers before → E block ≡ before → UnwrapState E text t' registers' block'

-- The end of an unwrapping: for every E that has an inverse, the promise of the call that unwraps the text in this form.
abbrev pub EndsUnwrapping : {A : Type 0} (form : AgreedForm) (left : ℕ) (registers block : List ℕ) (key : A → List ℕ) → Result A InPlaceFault → Type 0
EndsUnwrapping form left registers block key result = (E D : List ℕ → List ℕ) (text : List ℕ) → AreInverse E D
    → UnwrapState E text left registers block → Unwrapping (IsTextLengthAs form (length text)) form E text key result

-- The same in either form, the plain one with this initial value.
abbrev pub EndsUnwrappingEither : (iv left : ℕ) (registers block : List ℕ) (key : FoundKey → List ℕ) → Result FoundKey InPlaceFault → Type 0
EndsUnwrappingEither iv left registers block key result = (E D : List ℕ → List ℕ) (text : List ℕ) → AreInverse E D
    → UnwrapState E text left registers block → UnwrappingEither (IsPaddedTextLength (length text)) iv E text key result
