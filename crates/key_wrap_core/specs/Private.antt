-- The promises of the functions that only this crate and key_wrap_steps call.
use Rattle.std.specs.Prelude.{◌≡◌, ◌↔◌, ℕ, List, ◌++◌, length, take, All, Result, Ok, Err, IsOkUnless}
use Rattle.block_pair.specs.Pair.{AreInverse}
use Rattle.key_wrap_core.specs.declared.agreed_form.AgreedForm.{AgreedForm}
use Rattle.key_wrap_core.specs.declared.forms.FoundKey.{FoundKey}
use Rattle.key_wrap_core.specs.declared.faults.InPlaceFault.{InPlaceFault}
use Rattle.key_wrap_core.specs.declared.faults.InPlaceFault.TheVariants.{Integrity}
use Rattle.key_wrap_core.specs.declared.rewrapping.RewrapForms.{RewrapForms}
use Rattle.key_wrap_core.specs.declared.rewrapping.Rewrapped.{Rewrapped}
use Rattle.key_wrap_core.specs.declared.rewrapping.Rewrapped.TheVariants.{Fresh}
use Rattle.key_wrap_core.specs.declared.faults.Refusal.{Refusal}
use Rattle.key_wrap_core.specs.Words.{word_bytes}
use Rattle.key_wrap_core.specs.PaddedRegisters.{PaddedRegisters}
use Rattle.key_wrap_core.specs.NoKey.{NoKey}
use Rattle.key_wrap_core.specs.Lengths.{IsPaddedTextLength}
use Rattle.key_wrap_core.specs.Forms.{IsKeyLengthAs, IsTextLengthAs}
use Rattle.key_wrap_core.specs.Steps.{WrapSteps, UnwrapSteps}
use Rattle.key_wrap_core.specs.Unwrapping.{Unwrapping}
use Rattle.key_wrap_core.specs.BufferCalls.{UnwrappingEither}
use Rattle.key_wrap_core.specs.Found.{IsIvAndKey}
use Rattle.key_wrap_core.specs.Rewrap.{IsFrom}

-- A step over two registers and more, for every E: if the block is E of the last one, t' steps are done after t.
abbrev pub IsWordsStep : (t t' : ℕ) (registers registers' block block' : List ℕ) → Type 0
IsWordsStep t t' registers registers' block block' = (E : List ℕ → List ℕ) (iv : ℕ) (key before : List ℕ)
    → WrapSteps E iv key t registers before → block ≡ E before → WrapSteps E iv key t' registers' block'

-- A step over them undone, for every E: if E takes the block to the last one, t' steps are left after t.
abbrev pub IsWordsUnstep : (t t' : ℕ) (registers registers' block block' : List ℕ) → Type 0
IsWordsUnstep t t' registers registers' block block' = (E : List ℕ → List ℕ) (text before : List ℕ)
    → UnwrapSteps E text t registers before → E block ≡ before → UnwrapSteps E text t' registers' block'

-- The end of an unwrapping in one form that led back to this initial value and the registers `old`, for every E that has an
-- inverse. A key that was found is in the registers, and they are zeros if there is none.
pub record EndsIn {A : Type 0} (form : AgreedForm) (found : ℕ) (old new : List ℕ) (key : A → List ℕ) (result : Result A InPlaceFault) : Type 0 where
  pub answer : (E D : List ℕ → List ℕ) (text : List ℕ) → AreInverse E D → PaddedRegisters E (word_bytes found ++ old) text
      → Unwrapping (IsTextLengthAs form (length text)) form E text key result
  pub only_fault : IsOkUnless result Integrity
  pub cleared : result ≡ Err Integrity → All (λ byte. byte ≡ 0) new

-- The same in either form, the plain one with this initial value.
pub record EndsInEither (iv found : ℕ) (old new : List ℕ) (result : Result FoundKey InPlaceFault) : Type 0 where
  pub answer : (E D : List ℕ → List ℕ) (text : List ℕ) → AreInverse E D → PaddedRegisters E (word_bytes found ++ old) text
      → UnwrappingEither (IsPaddedTextLength (length text)) iv E text (λ found. take found.len new) result
  pub only_fault : IsOkUnless result Integrity
  pub cleared : result ≡ Err Integrity → All (λ byte. byte ≡ 0) new

-- The difference is 0 exactly if the buffer holds a key in one of these forms.
pub record TellsKey (IsFrom : AgreedForm → Type 0) (buffer : List ℕ) (difference : ℕ) : Type 0 where
  pub passes : difference ≡ 0 → (form : AgreedForm) × IsFrom form × (key : List ℕ) × IsIvAndKey form key buffer
  pub refuses : ¬ (difference ≡ 0) → (form : AgreedForm) → IsFrom form → NoKey (IsIvAndKey form) buffer

-- The difference is 0 exactly if the length of the key is legal in this form. Then the registers hold it there under this value.
pub record Fits (form : AgreedForm) (key registers : List ℕ) (difference iv : ℕ) : Type 0 where
  pub fits : (difference ≡ 0) ↔ IsKeyLengthAs form (length key)
  pub holds : IsKeyLengthAs form (length key) → IsIvAndKey form key (word_bytes iv ++ registers)

-- the registers hold a key in one of the forms, and are wrapped to the text
abbrev pub IsFound : RewrapForms → (List ℕ → List ℕ) → (text before : List ℕ) → Type 0
IsFound forms E text before = (form : AgreedForm) × IsFrom forms form × (key : List ℕ) × IsIvAndKey form key before × PaddedRegisters E before text

-- the result of a rewrapping that does not look for what is new
abbrev pub as_fresh : Result Unit Refusal → Result Rewrapped Refusal
as_fresh (Ok done) = Ok Fresh
as_fresh (Err fault) = Err fault
