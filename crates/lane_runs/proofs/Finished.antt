-- What the end of an unwrapping says of the whole buffer.
use Rattle.std.proofs.Common.{◌≡◌, ℕ, ◌-◌, ◌%◌, ◌≤◌, List, [], ◌++◌, length, take, drop, replicate, All, Result, Ok, Err, IfOk, refl, sym, ap, ap₂, ◌∙◌, arith}
use Rattle.std.proofs.Common.{length-append, length-drop}
use Rattle.std.proofs.lemmas.List.{take_all, take_at, drop_at, take-append-drop}
use Rattle.std.proofs.lemmas.List.Elements.{All-append, All-replicate}
use Rattle.std.proofs.lemmas.Slice.{take-put_mid_below}
use borrow.Rule.Slice.PartMut.{put_mid}
use Rattle.key_wrap_core.specs.declared.agreed_form.AgreedForm.{AgreedForm}
use Rattle.key_wrap_core.specs.declared.agreed_form.AgreedForm.TheVariants as agreed
use Rattle.key_wrap_core.specs.declared.faults.InPlaceFault.{InPlaceFault}
use Rattle.key_wrap_core.specs.declared.faults.InPlaceFault.TheVariants.{BadLength, Integrity}
use Rattle.key_wrap_core.specs.declared.forms.Form.TheVariants as forms
use Rattle.key_wrap_core.specs.BufferCalls.{IsKeyBuffer}
use Rattle.key_wrap_core.specs.InPlace.{key_in}
use Rattle.key_wrap_core.specs.Lengths.{IsPlainTextLength, IsPaddedTextLength}
use Rattle.key_wrap_core.specs.Plain.{default_iv}
use Rattle.key_wrap_core.specs.Unwrapping.{Unwrapping}
use Rattle.key_wrap_core.proofs.InPlaceForm.{registers_now}
use Rattle.key_wrap_core.proofs.PlainForm.{padded_whole}
use Rattle.lane_runs.specs.Texts.{IsUnwrapped}

-- the registers of a buffer whose first word was cleared, as the end of its unwrapping is lent them
pub lent : (text cleared : List ℕ) → 8 ≤ length text → cleared ≡ replicate 8 0 ++ drop 8 text → take (length cleared - 8) (drop 8 cleared) ≡ drop 8 text
lent text cleared some is =
    let behind : drop 8 cleared ≡ drop 8 text = rw is (drop_at (replicate 8 0) (drop 8 text) 8 refl) in
    rw behind (take_all (length cleared - 8) (drop 8 text) (omega (arith, ap length behind, length-drop 8 cleared, length-drop 8 text)))

-- and the buffer after it
pub finished : (text cleared registers : List ℕ) → 8 ≤ length text → cleared ≡ replicate 8 0 ++ drop 8 text → length registers ≡ length text - 8
    → put_mid 8 (length cleared - 8) cleared registers ≡ replicate 8 0 ++ registers
finished text cleared registers some is size =
    let new : List ℕ = put_mid 8 (length cleared - 8) cleared registers in
    let whole : length cleared ≡ length text = ap length is ∙ omega (arith, length-append (replicate 8 0) (drop 8 text), length-drop 8 text) in
    let first : take 8 new ≡ replicate 8 0 =
    take-put_mid_below 8 (length cleared - 8) cleared registers 8 (omega arith) (omega (arith, whole)) ∙ ap (take 8) is ∙ take_at (replicate 8 0) (drop 8 text) 8 refl in
    let rest : drop 8 new ≡ registers = registers_now cleared registers (omega (arith, whole)) (omega (arith, whole, size)) in
    sym (take-append-drop 8 new) ∙ ap₂ (λ (a b : List ℕ). a ++ b) first rest

-- a key, named in another way
found_as : {A B L : Type 0} {form : AgreedForm} {E : List ℕ → List ℕ} {text : List ℕ} {keys : A → List ℕ} {a : A} (keys' : B → List ℕ) (b : B)
    → keys' b ≡ keys a → Unwrapping L form E text keys (Ok a) → Unwrapping L form E text keys' (Ok b)
found_as keys' b same u = record {
  bad_length = (λ e. cc, λ bad. absurd (bad u.answer.0));
  answer = rw same u.answer;
  accepts = u.accepts;
  only_key = rw same u.only_key;
  restores = rw same u.restores;
  other_form = u.other_form;
}

-- no key
none_as : {A B L : Type 0} {form : AgreedForm} {E : List ℕ → List ℕ} {text : List ℕ} {keys : A → List ℕ} (keys' : B → List ℕ)
    → Unwrapping L form E text keys (Err Integrity) → Unwrapping L form E text keys' (Err Integrity)
none_as keys' u = record {
  bad_length = (λ e. cc, λ bad. absurd (bad u.answer.0));
  answer = u.answer;
  accepts = u.accepts;
  only_key = u.only_key;
  restores = u.restores;
  other_form = u.other_form;
}

-- all the bytes are zero
zeros : {registers buffer : List ℕ} → buffer ≡ replicate 8 0 ++ registers → All (λ (byte : ℕ). byte ≡ 0) registers → All (λ (byte : ℕ). byte ≡ 0) buffer
zeros {registers = registers} is all = rw is (All-append (λ (byte : ℕ). byte ≡ 0) (replicate 8 0) registers (All-replicate (λ (byte : ℕ). byte ≡ 0) 8 0 refl) all)

pub padded_finished : {E : List ℕ → List ℕ} {text buffer registers : List ℕ} (result : Result ℕ InPlaceFault) → buffer ≡ replicate 8 0 ++ registers
    → ¬ (result ≡ Err BadLength) → Unwrapping (IsPaddedTextLength (length text)) agreed.Padded E text (λ m. take m registers) result
    → IfOk result (λ m. IsKeyBuffer [] (take m registers) m registers) → (result ≡ Err Integrity → All (λ byte. byte ≡ 0) registers)
    → IsUnwrapped forms.Padded E text buffer result
padded_finished {buffer = buffer} {registers = registers} (Ok m) is good u key cleared =
    let same : key_in m buffer ≡ take m registers = rw is (ap (take m) (drop_at (replicate 8 0) registers 8 refl)) in
    record {
      unwraps = found_as (λ (k : ℕ). key_in k buffer) m same u;
      only_fault = tt;
      key = record { size = rw same key.size; around = rw same (is ∙ ap (λ (r : List ℕ). replicate 8 0 ++ r) key.around) };
      cleared = λ e. absurd (let wrong = e in cc);
    }
padded_finished (Err BadLength) is good u key cleared = absurd (good refl)
padded_finished {buffer = buffer} (Err Integrity) is good u key cleared = record {
  unwraps = none_as (λ (k : ℕ). key_in k buffer) u;
  only_fault = refl;
  key = tt;
  cleared = λ e. zeros is (cleared refl);
}

pub plain_finished : {E : List ℕ → List ℕ} {text buffer registers : List ℕ} (m : ℕ) → buffer ≡ replicate 8 0 ++ registers
    → length registers ≡ m → m % 8 ≡ 0 → Unwrapping (IsPlainTextLength (length text)) (agreed.Plain default_iv) E text (λ (_ : Unit {0}). registers) (Ok tt)
    → IsUnwrapped forms.Plain E text buffer (Ok m)
plain_finished {buffer = buffer} {registers = registers} m is size whole u =
    let same : key_in m buffer ≡ registers = rw is (ap (take m) (drop_at (replicate 8 0) registers 8 refl) ∙ take_all m registers (omega (arith, size))) in
    record {
      unwraps = found_as (λ (k : ℕ). key_in k buffer) m same u;
      only_fault = tt;
      key = record {
        size = rw same size;
        around = rw same (is ∙ ap (λ (r : List ℕ). replicate 8 0 ++ r) (sym (padded_whole registers (omega (arith, size, whole)))));
      };
      cleared = λ e. absurd (let wrong = e in cc);
    }

pub plain_refused : {E : List ℕ → List ℕ} {text buffer registers : List ℕ} (fault : InPlaceFault) → buffer ≡ replicate 8 0 ++ registers
    → ¬ (fault ≡ BadLength) → Unwrapping (IsPlainTextLength (length text)) (agreed.Plain default_iv) E text (λ (_ : Unit {0}). registers) (Err fault)
    → (fault ≡ Integrity → All (λ byte. byte ≡ 0) registers) → IsUnwrapped forms.Plain E text buffer (Err fault)
plain_refused BadLength is good u cleared = absurd (good refl)
plain_refused {buffer = buffer} Integrity is good u cleared = record {
  unwraps = none_as (λ (k : ℕ). key_in k buffer) u;
  only_fault = refl;
  key = tt;
  cleared = λ e. zeros is (cleared refl);
}
