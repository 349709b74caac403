-- What the flags of a rewrap request, and the promises of the calls that rewrap.
use Rattle.std.specs.Prelude.{◌≡◌, ◌↔◌, ℕ, zero, suc, ℤ, pos, Bool, false, List, All, Result, Ok, Err, ◌<◌, ◌/◌, ◌%◌, ◌==◌, if◌then◌else◌, nat_lt}
use Rattle.key_wrap_core.specs.declared.forms.Form.{Form}
use Rattle.key_wrap_core.specs.declared.forms.Form.TheVariants.{Plain, Padded}
use Rattle.key_wrap_core.specs.declared.rewrapping.RewrapForms.{RewrapForms}
use Rattle.key_wrap_core.specs.declared.rewrapping.RewrapForms.TheVariants.{Kept, Changed}
use Rattle.key_wrap_steps.specs.declared.rewrap_steps.RewrapRequest.{RewrapRequest}
use Rattle.key_wrap_core.specs.declared.rewrapping.Rewrapped.{Rewrapped}
use Rattle.key_wrap_core.specs.declared.rewrapping.Rewrapped.TheVariants.{Fresh, AlreadyNew}
use Rattle.key_wrap_core.specs.declared.faults.Refusal.{Refusal}
use Rattle.key_wrap_core.specs.declared.faults.Refusal.TheVariants.{BadLength, Integrity, KeyNotPlain}
use Rattle.key_wrap_core.specs.Forms.{by_default}
use Rattle.key_wrap_core.specs.Rewrap.{IsRewrapping}
use Rattle.keywrap_calls.specs.Keks.{IsKek}
use Rattle.keywrap_calls.specs.Status.{IsDone, IsBadKek, IsBadLength, IsIntegrity}

-- only bits of the first two are set, or only the third one; and each also with the fourth bit
abbrev pub AreFlags : ℕ → Type 0
AreFlags flags = (flags < 16) × (flags % 8 < 5)

-- the form that a bit names: padded exactly if it is set
abbrev pub form_of_bit : ℕ → Form
form_of_bit zero = Plain
form_of_bit (suc _) = Padded

-- bit 0 is about the old form, bit 1 about the new one; if bit 2 is set, the form is kept
abbrev pub forms_of : ℕ → RewrapForms
forms_of flags = if flags / 4 % 2 == 0 then Changed (by_default (form_of_bit (flags % 2))) (by_default (form_of_bit (flags / 2 % 2))) else Kept

-- if bit 3 is set, a wrapped key that is new already is passed
abbrev pub passes_new : ℕ → Bool
passes_new flags = nat_lt 7 flags

abbrev pub Requests : ℕ → RewrapRequest → Type 0
Requests flags request = AreFlags flags × (request.forms ≡ forms_of flags) × (request.pass_new ≡ passes_new flags)

-- both KEKs have legal lengths
abbrev pub AreKeks : List ℕ → List ℕ → Type 0
AreKeks old_kek new_kek = IsKek old_kek × IsKek new_kek

abbrev pub rewrap_status : Result Rewrapped Refusal → ℤ
rewrap_status (Ok done) = pos 0
rewrap_status (Err BadLength) = pos 4
rewrap_status (Err Integrity) = pos 5
rewrap_status (Err KeyNotPlain) = pos 8

-- 1 if the wrapped key was new already
abbrev pub already_of : Result Rewrapped Refusal → ℕ
already_of (Ok Fresh) = 0
already_of (Ok AlreadyNew) = 1
already_of (Err fault) = 0

-- a call that rewraps from E (the old KEK) to F (the new KEK); each refusal leaves the buffer unchanged
pub record Rewraps (E F : List ℕ → List ℕ) (old_kek new_kek : List ℕ) (flags : ℕ) (old new : List ℕ) (already : ℕ) (status : ℤ)
    : Type 0 where
  pub bad_kek : IsBadKek status ↔ ¬ AreKeks old_kek new_kek
  pub bad_flags : AreKeks old_kek new_kek → ¬ AreFlags flags → IsBadLength status
  -- a rewrapping of the old buffer has this status and this number; there is only one such result
  pub rewraps : AreKeks old_kek new_kek → AreFlags flags → (result : Result Rewrapped Refusal)
      × IsRewrapping (passes_new flags) (forms_of flags) E F old result new × (status ≡ rewrap_status result) × (already ≡ already_of result)
  pub kept : ¬ IsDone status → new ≡ old
  pub not_already : ¬ IsDone status → already ≡ 0

-- In the call of version 1.0 a key whose length is not legal in the new form is a bad length, and two refusals leave zeros in
-- place of the buffer after the rewrapping.
abbrev pub IsInPlace : Result Rewrapped Refusal → (after new : List ℕ) → ℤ → Type 0
IsInPlace (Ok done) after new status = IsDone status × (new ≡ after)
IsInPlace (Err BadLength) after new status = IsBadLength status × (new ≡ after)
IsInPlace (Err Integrity) after new status = IsIntegrity status × All (λ byte. byte ≡ 0) new
IsInPlace (Err KeyNotPlain) after new status = IsBadLength status × All (λ byte. byte ≡ 0) new

-- the call of version 1.0, which keeps no form and passes nothing
pub record RewrapsInPlace (E F : List ℕ → List ℕ) (old_kek new_kek : List ℕ) (flags : ℕ) (old new : List ℕ) (status : ℤ)
    : Type 0 where
  pub bad_kek : IsBadKek status ↔ ¬ AreKeks old_kek new_kek
  pub kept : IsBadKek status → new ≡ old
  pub bad_flags : AreKeks old_kek new_kek → ¬ (flags < 4) → IsBadLength status × (new ≡ old)
  pub rewraps : AreKeks old_kek new_kek → flags < 4 → (result : Result Rewrapped Refusal) × (after : List ℕ)
      × IsRewrapping false (forms_of flags) E F old result after × IsInPlace result after new status
