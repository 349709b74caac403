-- One rewrapping, from E to F, with the form kept or changed, and past what is new already.
use Rattle.std.specs.Prelude.{◌≡◌, ◌↔◌, Bool, true, ℕ, List, length, Result, Ok, Err}
use Rattle.key_wrap_core.specs.declared.agreed_form.AgreedForm.{AgreedForm}
use Rattle.key_wrap_core.specs.declared.rewrapping.RewrapForms.{RewrapForms}
use Rattle.key_wrap_core.specs.declared.rewrapping.RewrapForms.TheVariants.{Kept, Changed}
use Rattle.key_wrap_core.specs.declared.rewrapping.Rewrapped.{Rewrapped}
use Rattle.key_wrap_core.specs.declared.rewrapping.Rewrapped.TheVariants.{Fresh, AlreadyNew}
use Rattle.key_wrap_core.specs.declared.faults.Refusal.{Refusal}
use Rattle.key_wrap_core.specs.declared.faults.Refusal.TheVariants.{BadLength, Integrity, KeyNotPlain}
use Rattle.key_wrap_core.specs.Plain.{default_iv}
use Rattle.key_wrap_core.specs.Forms.{IsWrapping, IsKeyLengthAs, IsTextLengthAs}
use Rattle.key_wrap_core.specs.EitherForm.{IsEither, IsOnlyWrapping, NoKeyIn}

-- a form in which the text may be a wrapping
abbrev pub IsFrom : RewrapForms → AgreedForm → Type 0
IsFrom Kept form = IsEither default_iv form
IsFrom (Changed old new) form = form ≡ old

-- the form of the new wrapping of what is a wrapping in this form
abbrev pub to_form : RewrapForms → AgreedForm → AgreedForm
to_form Kept form = form
to_form (Changed old new) form = new

-- the forms of a rewrapping from F to itself: the new form on both sides
abbrev pub to_itself : RewrapForms → RewrapForms
to_itself Kept = Kept
to_itself (Changed old new) = Changed new new

-- a length that is legal in one of the forms
abbrev pub IsOldLength : RewrapForms → ℕ → Type 0
IsOldLength forms len = (form : AgreedForm) × IsFrom forms form × IsTextLengthAs form len

-- the text is the only wrapping of this key in this form, one of the old ones, under E
abbrev pub IsOldWrapping : RewrapForms → (List ℕ → List ℕ) → AgreedForm → (key text : List ℕ) → Type 0
IsOldWrapping forms E form key text = IsOnlyWrapping (IsFrom forms) E form key text

-- The answer is the new wrapping, under F, of the only key of which the text is a wrapping under E. So unwrapping the
-- answer gives exactly the old key, and rewrapping back gives the text.
abbrev pub IsRewrapped : RewrapForms → (List ℕ → List ℕ) → (List ℕ → List ℕ) → List ℕ → List ℕ → Type 0
IsRewrapped forms E F text answer = (form : AgreedForm) × (key : List ℕ) × IsOldWrapping forms E form key text
    × IsOldWrapping (to_itself forms) F (to_form forms form) key answer

-- Why a text is refused: its length is not legal, it is not a valid wrapped key, or its key has a length that is not legal in the new form.
abbrev pub HasFault : RewrapForms → (List ℕ → List ℕ) → List ℕ → Refusal → Type 0
HasFault forms E text BadLength = ¬ IsOldLength forms (length text)
HasFault forms E text Integrity = IsOldLength forms (length text) × NoKeyIn (IsFrom forms) E text
HasFault forms E text KeyNotPlain = (form : AgreedForm) × (key : List ℕ) × IsOldWrapping forms E form key text
    × ¬ IsKeyLengthAs (to_form forms form) (length key)

-- The text is no wrapping under E, but one under F in the new form.
pub record IsNew (forms : RewrapForms) (E F : List ℕ → List ℕ) (text : List ℕ) : Type 0 where
  pub no_old : NoKeyIn (IsFrom forms) E text
  pub new : (form : AgreedForm) × (key : List ℕ) × IsOldWrapping (to_itself forms) F form key text

-- a text that is refused with `pass_new` is not new already
abbrev pub IsRefused : Bool → RewrapForms → (List ℕ → List ℕ) → (List ℕ → List ℕ) → List ℕ → Refusal → Type 0
IsRefused pass_new forms E F text fault = HasFault forms E text fault × (pass_new ≡ true → ¬ IsNew forms E F text)

-- the result and the buffer of a rewrapping: of two results only one comes, and it is this one
abbrev pub IsRewrapping : Bool → RewrapForms → (List ℕ → List ℕ) → (List ℕ → List ℕ) → List ℕ → Result Rewrapped Refusal
    → List ℕ → Type 0
IsRewrapping pass_new forms E F text (Ok Fresh) after = IsRewrapped forms E F text after
IsRewrapping pass_new forms E F text (Ok AlreadyNew) after = (pass_new ≡ true) × IsNew forms E F text × (after ≡ text)
IsRewrapping pass_new forms E F text (Err fault) after = IsRefused pass_new forms E F text fault × (after ≡ text)

-- the forms of the rewrapping back
abbrev pub back : RewrapForms → RewrapForms
back Kept = Kept
back (Changed old new) = Changed new old

-- the text is the wrapping of a key whose length is legal in the new form
abbrev pub HasGoodKey : RewrapForms → (List ℕ → List ℕ) → List ℕ → Type 0
HasGoodKey forms E text = (form : AgreedForm) × (key : List ℕ) × IsOldWrapping forms E form key text
    × IsKeyLengthAs (to_form forms form) (length key)

-- Exactly when each result of a rewrapping comes, what it leaves in the buffer, and what a fresh wrapping is.
pub record RewrapResults (pass_new : Bool) (forms : RewrapForms) (E F : List ℕ → List ℕ) (text : List ℕ) (result : Result Rewrapped Refusal)
    (after : List ℕ) : Type 0 where
  pub fresh : (result ≡ Ok Fresh) ↔ HasGoodKey forms E text
  pub already_new : (result ≡ Ok AlreadyNew) ↔ ((pass_new ≡ true) × IsNew forms E F text)
  pub bad_length : (result ≡ Err BadLength) ↔ IsRefused pass_new forms E F text BadLength
  pub integrity : (result ≡ Err Integrity) ↔ IsRefused pass_new forms E F text Integrity
  pub key_not_plain : (result ≡ Err KeyNotPlain) ↔ HasFault forms E text KeyNotPlain
  -- the buffer is what it was after each other result
  pub kept : ¬ (result ≡ Ok Fresh) → after ≡ text
  -- unwrapping the new wrapped key gives exactly the old key
  pub same_key : result ≡ Ok Fresh → (form : AgreedForm) → IsFrom forms form → (key : List ℕ)
      → IsWrapping (to_form forms form) F key after ↔ IsWrapping form E key text
  -- rewrapping back gives the old wrapped key
  pub restores : result ≡ Ok Fresh → (other : List ℕ) → IsRewrapped (back forms) F E after other → other ≡ text
