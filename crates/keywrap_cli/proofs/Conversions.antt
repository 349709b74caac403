-- What a call makes of its input in a buffer with room, from what the call promises, by the cases of its result.
use Rattle.keywrap_cli.proofs.Common.{◌≡◌, ◌↔◌, ℕ, List, length, Result, Ok, Err, OnOk, refl, IsOkUnless, made, IsTextLengthAs, IsWrapping, with_value, ArePaddedLengths, KeyAnswer, NoOtherForm, AgreedForm, Form, MakesConversion, IsInputLength, IsKeyOf}
use Rattle.key_wrap_core.specs.EitherForm.{IsEither, IsOnlyWrapping, NoKeyIn}
use Rattle.key_wrap_core.specs.declared.faults.InPlaceFault.{InPlaceFault}
use Rattle.key_wrap_core.specs.declared.faults.InPlaceFault.TheVariants.{BadLength, Integrity}
use Rattle.key_wrap_core.specs.declared.forms.FoundKey.{FoundKey}
use Rattle.keywrap_cli.specs.declared.what.Conversion.TheVariants.{Wrap, Unwrap, UnwrapAny}

-- a wrapping of a key with a legal length
pub wrapped : {Room : Type 0} (form : AgreedForm) (E : List ℕ → List ℕ) (key text : List ℕ) (r : Result (Unit {0}) InPlaceFault)
    → Room → ((r ≡ Err BadLength) ↔ ¬ Room) → IsOkUnless r BadLength → OnOk r (IsTextLengthAs form (length text))
    → OnOk r (IsWrapping form E key text) → OnOk r ((other : List ℕ) → IsWrapping form E key other → other ≡ text)
    → MakesConversion (Wrap form) E key (made text r)
wrapped form E key text (Ok done) room bad only legal wrapping alone = record { legal = legal; wrapping = wrapping; alone = alone }
wrapped form E key text (Err BadLength) room bad only legal wrapping alone = absurd (bad.0 refl room)
wrapped form E key text (Err Integrity) room bad only legal wrapping alone = absurd (cc only)

-- an unwrapping of a text with a legal length, in the form that relates these keys to texts
pub refused_unwrap : {A : Type 0} (form : AgreedForm) (Fits : List ℕ → List ℕ → Type 0) (E : List ℕ → List ℕ) (text : List ℕ)
    (Legal : Type 0) (key : A → List ℕ) (fault : InPlaceFault) → Legal → IsInputLength (Unwrap form) (length text)
    → ((wrapped : List ℕ) → IsWrapping form E wrapped text → Fits wrapped text) → KeyAnswer Legal Fits text key (Err fault)
    → MakesConversion (Unwrap form) E text (Err fault)
refused_unwrap form Fits E text Legal key BadLength legal fits same h = absurd (h legal)
refused_unwrap form Fits E text Legal key Integrity legal fits same h = (fits, λ wrapped s. h.1 wrapped (same wrapped s))

pub unwrapped : (form : AgreedForm) (Fits : List ℕ → List ℕ → Type 0) (E : List ℕ → List ℕ) (text key : List ℕ) (Legal : Type 0)
    (r : Result (Unit {0}) InPlaceFault) → Legal → IsInputLength (Unwrap form) (length text)
    → ((wrapped : List ℕ) → IsWrapping form E wrapped text → Fits wrapped text)
    → ((wrapped : List ℕ) → Fits wrapped text → IsWrapping form E wrapped text)
    → KeyAnswer Legal Fits text (λ (_ : Unit {0}). key) r
    → OnOk r ((other : List ℕ) → IsWrapping form E other text → other ≡ key)
    → OnOk r ((other : List ℕ) → IsWrapping form E key other → other ≡ text)
    → OnOk r (NoOtherForm form E text) → MakesConversion (Unwrap form) E text (made key r)
unwrapped form Fits E text key Legal (Ok done) legal fits to from h alone restores one =
    record { wrapping = from key h.1; alone = alone; restores = restores; one_form = one }
unwrapped form Fits E text key Legal (Err fault) legal fits to from h alone restores one =
    refused_unwrap {A = Unit {0}} form Fits E text Legal (λ (_ : Unit {0}). key) fault legal fits to h

abbrev refusal : InPlaceFault → Result FoundKey InPlaceFault
refusal fault = Err fault

-- an unwrapping in either form of a text with a legal length, into a room of this length
pub none_found : (iv room : ℕ) (E : List ℕ → List ℕ) (text : List ℕ) (fault : InPlaceFault) → ArePaddedLengths room (length text)
    → ((refusal fault ≡ refusal BadLength) ↔ ¬ ArePaddedLengths room (length text))
    → ((refusal fault ≡ refusal Integrity) ↔ (ArePaddedLengths room (length text) × NoKeyIn (IsEither iv) E text))
    → MakesConversion (UnwrapAny iv) E text (Err fault)
none_found iv room E text BadLength legal bad none = absurd (bad.0 refl legal)
none_found iv room E text Integrity legal bad none = (legal.0, λ own. (none.0 refl).1 (with_value own iv) (own, refl))

pub is_found : (iv : ℕ) (E : List ℕ → List ℕ) (form : Form) (key text : List ℕ)
    → IsOnlyWrapping (IsEither iv) E (with_value form iv) key text → NoOtherForm (with_value form iv) E text → IsKeyOf (with_value form iv) E text key
is_found iv E form key text is one = record {
  wrapping = is.wrapping;
  alone = λ other h. (is.only (with_value form iv) other (form, refl) h).1;
  restores = is.alone;
  one_form = one;
}
