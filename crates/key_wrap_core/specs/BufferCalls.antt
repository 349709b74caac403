-- The promises of the calls in the caller's buffers. `old` is a buffer before the call, `new` after it.
use Rattle.std.specs.Prelude.{◌≡◌, ◌↔◌, ◌⊎◌, Bool, true, false, ℕ, ◌+◌, ◌*◌, List, ◌++◌, length, All, Result, Ok, Err, IsErr, IsOkUnless, IfOk, OnOk}
use Rattle.block_pair.specs.Metered.{Metered, counted}
use Rattle.key_wrap_core.specs.declared.agreed_form.AgreedForm.{AgreedForm}
use Rattle.key_wrap_core.specs.declared.forms.Form.{Form}
use Rattle.key_wrap_core.specs.declared.forms.FoundKey.{FoundKey}
use Rattle.key_wrap_core.specs.declared.forms.Kind.{Kind}
use Rattle.key_wrap_core.specs.declared.faults.InPlaceFault.{InPlaceFault}
use Rattle.key_wrap_core.specs.declared.faults.InPlaceFault.TheVariants.{BadLength, Integrity}
use Rattle.key_wrap_core.specs.declared.rewrapping.RewrapForms.{RewrapForms}
use Rattle.key_wrap_core.specs.declared.rewrapping.Rewrapped.{Rewrapped}
use Rattle.key_wrap_core.specs.declared.rewrapping.Rewrapped.TheVariants.{Fresh, AlreadyNew}
use Rattle.key_wrap_core.specs.declared.faults.Refusal.{Refusal}
use Rattle.key_wrap_core.specs.declared.faults.Refusal.TheVariants.{KeyNotPlain}
use Rattle.key_wrap_core.specs.Lengths.{IsPaddedTextLength}
use Rattle.key_wrap_core.specs.Padded.{padded}
use Rattle.key_wrap_core.specs.BlockCalls.{block_calls}
use Rattle.key_wrap_core.specs.Forms.{IsWrappingWithIv, IsWrapping, NoOtherForm, with_value}
use Rattle.key_wrap_core.specs.EitherForm.{IsEither, IsOnlyWrapping, NoKeyIn}
use Rattle.key_wrap_core.specs.Rewrap.{IsOldLength, to_itself}

-- A call that refuses exactly the lengths that are not legal, for no other cause, and leaves everything as it was.
pub record RefusesLength {A : Type 0} (Legal Same : Type 0) (result : Result A InPlaceFault) : Type 0 where
  pub bad_length : (result ≡ Err BadLength) ↔ ¬ Legal
  pub only_fault : IsOkUnless result BadLength
  pub kept : result ≡ Err BadLength → Same

-- The promise of a call that wraps this key in this form under E, if the lengths are legal, into a buffer: `old` before the
-- call, `new` after it. The key has no other wrapping in this form, and in the other form the wrapping is none.
pub record Wrapping (Legal : Type 0) (form : AgreedForm) (E : List ℕ → List ℕ) (key old new : List ℕ) (result : Result Unit InPlaceFault) : Type 0 where
  pub bad_length : (result ≡ Err BadLength) ↔ ¬ Legal
  pub only_fault : IsOkUnless result BadLength
  pub kept : result ≡ Err BadLength → new ≡ old
  pub answer : OnOk result (IsWrapping form E key new)
  pub only_text : OnOk result ((other : List ℕ) → IsWrapping form E key other → other ≡ new)
  pub other_form : OnOk result (NoOtherForm form E new)

-- The promise of a call that unwraps this text in either form under E. It is the wrapping of only this key, and only in the
-- form that was found, whatever the initial value of the other. A wrapping in either form is refused only for its lengths.
pub record UnwrappingEither (Legal : Type 0) (iv : ℕ) (E : List ℕ → List ℕ) (text : List ℕ) (key : FoundKey → List ℕ)
    (result : Result FoundKey InPlaceFault) : Type 0 where
  pub bad_length : (result ≡ Err BadLength) ↔ ¬ Legal
  pub integrity : (result ≡ Err Integrity) ↔ (Legal × NoKeyIn (IsEither iv) E text)
  pub answer : IfOk result (λ found. IsOnlyWrapping (IsEither iv) E (with_value found.form iv) (key found) text)
  pub accepts : (form : Form) (other : List ℕ) → IsWrappingWithIv form iv E other text → IsOkUnless result BadLength
  pub other_form : IfOk result (λ found. NoOtherForm (with_value found.form iv) E text)

-- what each refusal of an unwrapping leaves in its buffer
pub record KeepsOrClears {A : Type 0} (old new : List ℕ) (result : Result A InPlaceFault) : Type 0 where
  pub kept : result ≡ Err BadLength → new ≡ old
  pub cleared : result ≡ Err Integrity → All (λ byte. byte ≡ 0) new

-- the buffer is these bytes, then the key, of m bytes, and then its padding
pub record IsKeyBuffer (front key : List ℕ) (m : ℕ) (buffer : List ℕ) : Type 0 where
  pub size : length key ≡ m
  pub around : buffer ≡ front ++ padded key

-- the meter of a call that makes this number of block calls, or none if a length is refused
pub record CountsCalls {B A : Type 0} (calls : ℕ) (old new : Metered B) (result : Result A InPlaceFault) : Type 0 where
  pub kept : result ≡ Err BadLength → new ≡ old
  pub counts : ¬ (result ≡ Err BadLength) → new ≡ counted calls old

-- The scratch buffer and the meter of a call that finds a kind. The text is unwrapped, and the scratch buffer cleared, if
-- its length is legal and the scratch buffer is 8 bytes shorter.
pub record UsesScratch {B : Type 0} (text old new : List ℕ) (meter meter' : Metered B) (result : Result Kind InPlaceFault) : Type 0 where
  pub bad_length : IsErr result ↔ (IsPaddedTextLength (length text) × ¬ (length text ≡ length old + 8))
  pub only_fault : IsOkUnless result BadLength
  pub kept : IsErr result ⊎ ¬ IsPaddedTextLength (length text) → new ≡ old
  pub meter_kept : IsErr result ⊎ ¬ IsPaddedTextLength (length text) → meter' ≡ meter
  pub cleared : IfOk result (λ _. IsPaddedTextLength (length text) → All (λ byte. byte ≡ 0) new)
  pub calls : IfOk result (λ _. IsPaddedTextLength (length text) → meter' ≡ counted (block_calls (length text)) meter)

-- The block calls of a rewrapping of a text of this length. What was unwrapped under one of the pairs and is not rewrapped is
-- wrapped again under it.
pub record RewrapCalls {O N : Type 0} (pass_new : Bool) (forms : RewrapForms) (len : ℕ) (old old' : Metered O) (new new' : Metered N)
    (result : Result Rewrapped Refusal) : Type 0 where
  pub unwrap_calls : result ≡ Ok Fresh → old' ≡ counted (block_calls len) old
  pub wrap_calls : result ≡ Ok Fresh → new' ≡ counted (block_calls len) new
  pub old_calls : ¬ (result ≡ Ok Fresh) → IsOldLength forms len → old' ≡ counted (2 * block_calls len) old
  pub old_meter_kept : ¬ IsOldLength forms len → old' ≡ old
  pub new_calls : result ≡ Ok AlreadyNew → new' ≡ counted (2 * block_calls len) new
  pub new_refused_calls : IsErr result → pass_new ≡ true → ¬ (result ≡ Err KeyNotPlain) → IsOldLength (to_itself forms) len
      → new' ≡ counted (2 * block_calls len) new
  pub new_unasked : IsErr result → pass_new ≡ false → new' ≡ new
  pub new_untried : result ≡ Err KeyNotPlain → new' ≡ new
  pub new_illegal : IsErr result → ¬ IsOldLength (to_itself forms) len → new' ≡ new
