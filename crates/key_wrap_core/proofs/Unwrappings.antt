-- What an unwrapping call that takes no memory promises, from the state in which the machine left the registers.
use Rattle.std.proofs.Common.{rules, ◌≡◌, ◌↔◌, ℕ, bit_xor, ◌+◌, List, [], ◌++◌, length, take, drop, replicate, Result, Ok, Err}
use Rattle.std.proofs.Common.{OnOk, IfOk, IsOk, IsOkUnless}
use Rattle.std.proofs.Common.{refl, sym, ap, subst, ◌∙◌}
use Rattle.std.proofs.Common.{arith, length-append}
use Rattle.std.proofs.lemmas.List.{drop_at}
use Rattle.block_pair.specs.Pair.{AreInverse}
use Rattle.block_pair.specs.Words.{IsWord}
use Rattle.key_wrap_core.specs.declared.agreed_form.AgreedForm.{AgreedForm}
use Rattle.key_wrap_core.specs.declared.agreed_form.AgreedForm.TheVariants.{Plain as InPlain, Padded as InPadded}
use Rattle.key_wrap_core.specs.declared.faults.InPlaceFault.{InPlaceFault}
use Rattle.key_wrap_core.specs.declared.faults.InPlaceFault.TheVariants.{BadLength, Integrity}
use Rattle.key_wrap_core.specs.Words.{word_bytes}
use Rattle.key_wrap_core.specs.Lengths.{IsPlainTextLength, IsPaddedTextLength, IsPaddedKeyLength}
use Rattle.key_wrap_core.specs.Plain.{Plain, IsReserved, default_iv}
use Rattle.key_wrap_core.specs.Registers.{Registers}
use Rattle.key_wrap_core.specs.PaddedRegisters.{PaddedRegisters, IsAivAndKey, HasKeyLength}
use Rattle.key_wrap_core.specs.NoKey.{NoKey, NoPlainKey}
use Rattle.key_wrap_core.specs.Forms.{IsWrapping}
use Rattle.key_wrap_core.specs.InPlace.{key_in}
use Rattle.key_wrap_core.specs.Unwrapping.{Unwrapping}
use Rattle.key_wrap_core.specs.BufferCalls.{IsKeyBuffer}
use Rattle.key_wrap_core.proofs.Spelling.{length-word_bytes, word_front}
use Rattle.key_wrap_core.proofs.Tapes.{wraps_iv, registers_length, registers_backward}
use Rattle.key_wrap_core.proofs.PlainForm.{default_free, plain_registers, registers_plain, plain_only_key, plain_only_text}
use Rattle.key_wrap_core.proofs.PaddedForm.{padded_registers_length, padded_unwrapped, padded_refused}
use Rattle.key_wrap_core.proofs.BothForms.{not_both_forms}
use Rattle.key_wrap_core.proofs.Differences.{xor_same, same_xor}

-- no key belongs to the text
none_found : {A : Type 0} {Legal : Type 0} {form : AgreedForm} {E : List ℕ → List ℕ} {text : List ℕ} {key : A → List ℕ}
    → Legal → NoKey (IsWrapping form E) text → Unwrapping Legal form E text key (Err Integrity)
none_found legal none = record {
  bad_length = (λ e. cc, λ bad. absurd (bad legal));
  answer = (legal, none);
  accepts = λ other k. absurd (none other k);
  only_key = search rules;
  restores = search rules;
  other_form = search rules;
}

-- the same lengths, said in another way
pub legally : {A : Type 0} {Legal Legal' : Type 0} {form : AgreedForm} {E : List ℕ → List ℕ} {text : List ℕ} {key : A → List ℕ}
    {answer : Result A InPlaceFault} → Legal → Legal' → Unwrapping Legal form E text key answer → Unwrapping Legal' form E text key answer
legally {answer = Ok m} legal legal' u = record {
  bad_length = (λ e. cc, λ bad. absurd (bad legal'));
  answer = (legal', u.answer.1);
  accepts = u.accepts;
  only_key = u.only_key;
  restores = u.restores;
  other_form = u.other_form;
}
legally {answer = Err BadLength} legal legal' u = absurd (u.answer legal)
legally {answer = Err Integrity} legal legal' u = none_found legal' u.answer.1

-- the registers run back to the initial value and the key
pub plain_found : {E D : List ℕ → List ℕ} (iv : ℕ) (key text : List ℕ) → AreInverse E D → IsWord iv → ¬ IsReserved iv → IsPlainTextLength (length text)
    → Registers E (word_bytes iv ++ key) text
    → Unwrapping (IsPlainTextLength (length text)) (InPlain iv) E text (λ (_ : Unit {0}). key) (Ok tt)
plain_found {E = E} iv key text inv word free legal run =
    let size : length text ≡ 8 + length key = omega (arith, registers_length run, length-append (word_bytes iv) key, length-word_bytes iv) in
    let wrapping : Plain E iv key text = registers_plain iv key text word (omega arith, omega arith, omega arith) run in
    record {
      bad_length = (λ e. cc, λ bad. absurd (bad legal));
      answer = (legal, wrapping);
      accepts = search rules;
      only_key = λ other k. plain_only_key inv wrapping k;
      restores = λ other k. plain_only_text wrapping k;
      other_form = λ other k. not_both_forms inv free wrapping k;
    }

-- and if they run back to another initial value, no key belongs to the text
pub plain_none : {E D : List ℕ → List ℕ} {found : ℕ} (iv : ℕ) (registers key text : List ℕ) → AreInverse E D → IsPlainTextLength (length text) → IsWord found
    → ¬ (found ≡ iv) → Registers E (word_bytes found ++ registers) text
    → Unwrapping (IsPlainTextLength (length text)) (InPlain iv) E text (λ (_ : Unit {0}). key) (Err Integrity)
plain_none {found = found} iv registers key text inv legal word other run =
    none_found legal (λ k h. other (word_front found iv registers k word (wraps_iv h.wraps) (registers_backward inv run (plain_registers h))).0)

-- the decision of an unwrapping, from the difference of the initial values
pub plain_decided : {E D : List ℕ → List ℕ} (iv found : ℕ) (registers left text : List ℕ) (answer : Result (Unit {0}) InPlaceFault) → AreInverse E D
    → IsWord iv → IsWord found → ¬ IsReserved iv → IsPlainTextLength (length text) → Registers E (word_bytes found ++ registers) text
    → IsOk answer ↔ (bit_xor found iv ≡ 0) → IsOkUnless answer Integrity → OnOk answer (left ≡ registers)
    → Unwrapping (IsPlainTextLength (length text)) (InPlain iv) E text (λ (_ : Unit {0}). left) answer
plain_decided {E = E} iv found registers left text (Ok done) inv word word' free legal run passes only kept =
    let same : found ≡ iv = xor_same found iv (passes.0 refl) in
    plain_found iv left text inv word free legal (rw (kept, ← same) run)
plain_decided iv found registers left text (Err BadLength) inv word word' free legal run passes only kept =
    absurd (let bad : BadLength ≡ Integrity = only in cc)
plain_decided iv found registers left text (Err Integrity) inv word word' free legal run passes only kept =
    plain_none iv registers left text inv legal word' (λ same. absurd (let ok = passes.1 (same_xor found iv same) in cc)) run

-- one word and the registers
pub word_size : (word : ℕ) (registers : List ℕ) → length (word_bytes word ++ registers) ≡ 8 + length registers
word_size word registers = omega (arith, length-append (word_bytes word) registers, length-word_bytes word)

-- the text is as long as what it runs back to
pub text_size : {E D : List ℕ → List ℕ} (found : ℕ) (registers text : List ℕ) → AreInverse E D → PaddedRegisters E (word_bytes found ++ registers) text
    → length text ≡ 8 + length registers
text_size found registers text inv run = padded_registers_length inv run ∙ word_size found registers

-- the registers run back to an initial value and registers that hold a key of len bytes
pub padded_found : {E D : List ℕ → List ℕ} {len : ℕ} (iv : ℕ) (registers text : List ℕ) → AreInverse E D → IsPaddedTextLength (length text)
    → PaddedRegisters E (word_bytes iv ++ registers) text → HasKeyLength (word_bytes iv ++ registers) len
    → Unwrapping (IsPaddedTextLength (length text)) InPadded E text (λ m. take m registers) (Ok len)
padded_found {len = len} iv registers text inv legal run held =
    let cut : take len registers ≡ take len (drop 8 (word_bytes iv ++ registers)) =
    ap (take len) (sym (drop_at (word_bytes iv) registers 8 (length-word_bytes iv))) in
    let w = padded_unwrapped (word_bytes iv ++ registers) text (take len registers) len inv run refl refl held cut in
    record {
      bad_length = (λ e. cc, λ bad. absurd (bad legal));
      answer = (legal, w.0);
      accepts = search rules;
      only_key = w.1;
      restores = w.2;
      other_form = λ iv' word free other k. not_both_forms inv free k w.0;
    }

-- and if they hold no key, none belongs to the text
pub padded_none : {E D : List ℕ → List ℕ} (iv : ℕ) (registers : List ℕ) (key : ℕ → List ℕ) (text : List ℕ) → AreInverse E D → IsPaddedTextLength (length text)
    → PaddedRegisters E (word_bytes iv ++ registers) text
    → ((other : List ℕ) → IsPaddedKeyLength (length other) → ¬ IsAivAndKey (word_bytes iv ++ registers) other)
    → Unwrapping (IsPaddedTextLength (length text)) InPadded E text key (Err Integrity)
padded_none iv registers key text inv legal run holds =
    none_found legal (padded_refused (word_bytes iv ++ registers) text inv run refl refl holds)

-- the text and the key, named in another way
pub renamed : {A : Type 0} (L : ℕ → Type 0) {form : AgreedForm} {E : List ℕ → List ℕ} {text text' : List ℕ} {key key' : A → List ℕ}
    {answer : Result A InPlaceFault}
    → text ≡ text' → key ≡ key' → Unwrapping (L (length text)) form E text key answer → Unwrapping (L (length text')) form E text' key' answer
renamed L {form = form} {E = E} {text' = text'} {key = key} {answer = answer} same own u =
    subst (λ k. Unwrapping (L (length text')) form E text' k answer) own
    (subst (λ (t : List ℕ). Unwrapping (L (length t)) form E t key answer) same u)

-- an answer that is no fault, of legal lengths, is a key
pub ok_legal : {A Legal : Type 0} (answer : Result A InPlaceFault) → Legal → ((answer ≡ Err BadLength) ↔ ¬ Legal) → IsOkUnless answer BadLength → IsOk answer
ok_legal (Ok m) legal bad h = refl
ok_legal (Err BadLength) legal bad h = absurd (bad.0 refl legal)
ok_legal (Err Integrity) legal bad h = absurd (let no : Integrity ≡ BadLength = h in cc)

-- the registers that hold a key follow eight zeros
pub behind_zeros : {A : Type 0} (answer : Result A InPlaceFault) (len : A → ℕ) (registers : List ℕ)
    → IfOk answer (λ m. IsKeyBuffer [] (take (len m) registers) (len m) registers)
    → IfOk answer (λ m. IsKeyBuffer (replicate 8 0) (key_in (len m) (replicate 8 0 ++ registers)) (len m) (replicate 8 0 ++ registers))
behind_zeros (Ok m) len registers k = record { size = k.size; around = ap (λ (bs : List ℕ). replicate 8 0 ++ bs) k.around }
behind_zeros (Err e) len registers k = tt

-- of all the initial values the default is one
pub default_among : {A F : Type 0} (E : List ℕ → List ℕ) (text : List ℕ) (answer : Result A F) → OnOk answer (NoPlainKey E text)
    → OnOk answer (NoKey (Plain E default_iv) text)
default_among E text (Ok m) none = none default_iv (omega arith) default_free
default_among E text (Err e) none = tt
