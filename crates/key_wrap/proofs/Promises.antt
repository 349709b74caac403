-- What is promised of the result of a call that takes memory, at each refusal.
use Rattle.std.proofs.Common.{◌≡◌, ℕ, List, ◌++◌, length, take, drop, Result, Ok, Err, IfOk, IsErr, IsErrAnd, Vec, refl, ap}
use Rattle.std.proofs.lemmas.List.{take_at}
use Rattle.key_wrap_core.specs.declared.agreed_form.AgreedForm.{AgreedForm}
use Rattle.key_wrap_core.specs.declared.faults.InPlaceFault.{InPlaceFault}
use Rattle.key_wrap_core.specs.declared.faults.InPlaceFault.TheVariants as in_place
use Rattle.key_wrap_core.specs.InPlace.{KeyAnswer}
use Rattle.key_wrap_core.specs.NoKey.{NoKey}
use Rattle.key_wrap_core.specs.Forms.{IsWrapping, IsTextLengthAs}
use Rattle.key_wrap.specs.declared.faults.UnwrapFault.{UnwrapFault}
use Rattle.key_wrap.specs.declared.faults.UnwrapFault.TheVariants.{BadLength, Integrity, Memory}
use Rattle.key_wrap.specs.Results.{Unwrapped, unwrap_fault}

-- what a slice lent from a vector leaves there
pub written_back : (n : ℕ) (new old : List ℕ) → length new ≡ n → take n (new ++ drop (length new) old) ≡ new
written_back n new old size = take_at new (drop (length new) old) n size

module _ {Z : Type 0} (form : AgreedForm) (E : List ℕ → List ℕ) (text : List ℕ) where
  -- the text has no legal length, and so no key
  pub unwrap_refused : ((key : List ℕ) → IsWrapping form E key text → IsTextLengthAs form (length text)) → ¬ IsTextLengthAs form (length text)
      → Unwrapped {Z = Z} form E text (Err BadLength)
  unwrap_refused legal illegal = record {
    bad_length = (λ e. illegal, λ bad. refl);
    answer = illegal;
    accepts = λ key h. absurd (illegal (legal key h));
    only_key = tt;
    restores = tt;
    other_form = tt;
  }

  -- the call in the buffer found no key
  pub unwrap_none : (answer : Result (Vec ℕ Z) UnwrapFault) → IsTextLengthAs form (length text) → answer ≡ Err Integrity → NoKey (IsWrapping form E) text
      → Unwrapped form E text answer
  unwrap_none (Ok key) legal is none = cc
  unwrap_none (Err BadLength) legal is none = cc
  unwrap_none (Err Memory) legal is none = cc
  unwrap_none (Err Integrity) legal is none = record {
    bad_length = (λ e. cc, λ bad. absurd (bad legal));
    answer = (legal, none);
    accepts = λ key h. absurd (none key h);
    only_key = tt;
    restores = tt;
    other_form = tt;
  }

-- if the call in the buffer refused a text of a legal length, no key belongs to it, and the call that takes memory reports it
pub refused : {Z : Type 0} (Relates : List ℕ → List ℕ → Type 0) (Legal : Type 0) {A : Type 0} (key : A → List ℕ) (text : List ℕ) (fault : InPlaceFault)
    (answer : Result (Vec ℕ Z) UnwrapFault)
    → Legal → KeyAnswer Legal Relates text key (Err fault) → IsErr answer × IsErrAnd answer (λ e. e ≡ unwrap_fault fault)
    → (answer ≡ Err Integrity) × NoKey Relates text
refused Relates Legal key text fault (Ok k) legal a r = let no = r.0 in cc
refused Relates Legal key text in_place.BadLength (Err e) legal a r = absurd (a legal)
refused Relates Legal key text in_place.Integrity (Err e) legal a r = (ap Err r.1, a.1)
