-- What a call for many keys promises of a slot whose form was found, or that was rewrapped, beside others.
use Rattle.std.proofs.Common.{◌≡◌, ℕ, ◌+◌, Bool, List, length, replicate, pos, Result, Ok, Err, refl, sym}
use Rattle.std.specs.Prelude.{IsErr}
use Rattle.std.proofs.lemmas.List.{length-replicate}
use Rattle.std.proofs.lemmas.List.Elements.{All-replicate}
use Rattle.key_wrap_core.specs.declared.forms.Kind.{Kind}
use Rattle.key_wrap_core.specs.declared.forms.Kind.TheVariants as kinds
use Rattle.key_wrap_core.specs.declared.faults.Refusal.{Refusal}
use Rattle.key_wrap_core.specs.declared.faults.Refusal.TheVariants.{BadLength, Integrity, KeyNotPlain}
use Rattle.key_wrap_core.specs.declared.rewrapping.RewrapForms.{RewrapForms}
use Rattle.key_wrap_core.specs.declared.rewrapping.Rewrapped.{Rewrapped}
use Rattle.key_wrap_core.specs.declared.rewrapping.Rewrapped.TheVariants.{Fresh, AlreadyNew}
use Rattle.key_wrap_core.specs.Kind.{IsTheKind}
use Rattle.key_wrap_core.specs.Lengths.{IsPaddedTextLength}
use Rattle.key_wrap_core.specs.Plain.{default_iv}
use Rattle.key_wrap_core.specs.Rewrap.{IsRewrapping}
use Rattle.key_wrap_steps.specs.declared.rewrap_steps.RewrapRequest.{RewrapRequest}
use Rattle.lane_runs.specs.Kinds.{AreNumbersOf, FindsText}
use Rattle.lane_runs.specs.Rewraps as lanes
use Rattle.keywrap_calls.specs.Keks.{IsKek}
use Rattle.keywrap_calls.specs.KindCalls.{FindsKind}
use Rattle.keywrap_calls.specs.Many.{FindsSlot, RewrapsSlot}
use Rattle.keywrap_calls.specs.Rewraps.{AreKeks, Requests, already_of}
use Rattle.keywrap_calls.specs.RewrapSteps.{end_status}
use Rattle.keywrap_calls.proofs.Finding.{finds_plain, finds_padded, finds_neither}
use Rattle.keywrap_calls.proofs.Rewraps.{byte_parts, rewraps}

-- the numbers of a kind, by way of a scratch buffer of zeros
found : (E : List ℕ → List ℕ) (kek text : List ℕ) (room : ℕ) (kind : Kind) (is_padded key_len status : ℕ) → IsKek kek → length text ≡ room + 8
    → IsPaddedTextLength (length text) → IsTheKind default_iv E text kind → AreNumbersOf kind is_padded key_len status
    → FindsKind E kek text (replicate room 0) (replicate room 0) is_padded key_len (pos status)
found E kek text room (kinds.Plain m) is_padded key_len status legal_kek fits legal is numbers =
    rw (numbers.0, numbers.1, numbers.2)
    (finds_plain E kek text (replicate room 0) (replicate room 0) legal_kek (λ _. rw (length-replicate {A = ℕ} room 0) fits) (λ _. refl)
    (λ _. All-replicate (λ byte. byte ≡ 0) room 0 refl) m is.is is.other_form is.plain)
found E kek text room (kinds.Padded m) is_padded key_len status legal_kek fits legal is numbers =
    rw (numbers.0, numbers.1, numbers.2)
    (finds_padded E kek text (replicate room 0) (replicate room 0) legal_kek (λ _. rw (length-replicate {A = ℕ} room 0) fits) (λ _. refl)
    (λ _. All-replicate (λ byte. byte ≡ 0) room 0 refl) m is.is is.other_form is.plain is.padded)
found E kek text room kinds.Neither is_padded key_len status legal_kek fits legal is numbers =
    rw (numbers.0, numbers.1, numbers.2)
    (finds_neither E kek text (replicate room 0) (replicate room 0) legal_kek (λ _. rw (length-replicate {A = ℕ} room 0) fits) (λ _. refl)
    (λ _. All-replicate (λ byte. byte ≡ 0) room 0 refl) is.is)

pub slot_found : (E : List ℕ → List ℕ) (kek text : List ℕ) (room is_padded key_len status : ℕ) → IsKek kek → length text ≡ room + 8
    → IsPaddedTextLength (length text) → FindsText E text is_padded key_len status → FindsSlot E kek text is_padded key_len (pos status)
slot_found E kek text room is_padded key_len status legal_kek fits legal u = record {
  before = replicate room 0;
  after = replicate room 0;
  room = rw (length-replicate {A = ℕ} room 0) fits;
  call = found E kek text room u.kind is_padded key_len status legal_kek fits legal u.is u.numbers;
}

-- the status of an outcome is the same here and there
same_status : (outcome : Result Rewrapped Refusal) → end_status outcome ≡ pos (lanes.rewrap_status outcome)
same_status (Ok Fresh) = refl
same_status (Ok AlreadyNew) = refl
same_status (Err BadLength) = refl
same_status (Err Integrity) = refl
same_status (Err KeyNotPlain) = refl

kept : (pass_new : Bool) (forms : RewrapForms) (E F : List ℕ → List ℕ) (text after : List ℕ) (outcome : Result Rewrapped Refusal)
    → IsRewrapping pass_new forms E F text outcome after → IsErr outcome → after ≡ text
kept pass_new forms E F text after (Ok done) is e = absurd (let wrong = e in cc)
kept pass_new forms E F text after (Err fault) is e = is.1

pub slot_rewrapped : (E F : List ℕ → List ℕ) (old_kek new_kek : List ℕ) (flags : ℕ) (request : RewrapRequest) (old new : List ℕ) (status : ℕ)
    → AreKeks old_kek new_kek → Requests flags request → lanes.RewrapsText request.pass_new request.forms E F old new status
    → RewrapsSlot E F old_kek new_kek flags old new status
slot_rewrapped E F old_kek new_kek flags request old new status keks asked u =
    let byte = byte_parts u.result status (rw u.status_is (same_status u.result)) in
    record {
      already = already_of u.result;
      code = byte.0;
      call = rw (sym byte.1) (rewraps E F old_kek new_kek flags old new u.result keks asked.0 (rw (asked.1, asked.2) at u.rewraps) (kept request.pass_new request.forms E F old new u.result u.rewraps));
      byte_is = byte.2;
    }
