-- The two forms: their relations of keys and wrapped keys, and their legal lengths. Both ends agree on a form and, in
-- the plain form, on its initial value.
use Rattle.std.specs.Prelude.{ℕ, List}
use Rattle.key_wrap_core.specs.declared.forms.Form.{Form}
use Rattle.key_wrap_core.specs.declared.forms.Form.TheVariants as forms
use Rattle.key_wrap_core.specs.declared.agreed_form.AgreedForm.{AgreedForm}
use Rattle.key_wrap_core.specs.declared.agreed_form.AgreedForm.TheVariants.{Plain as InPlain, Padded as InPadded}
use Rattle.key_wrap_core.specs.Lengths.{IsPlainKeyLength, IsPlainTextLength, IsPaddedKeyLength, IsPaddedTextLength}
use Rattle.key_wrap_core.specs.Plain.{Plain, default_iv}
use Rattle.key_wrap_core.specs.Padded.{Padded}
use Rattle.key_wrap_core.specs.NoKey.{NoKey, NoPlainKey}

-- the wrapped key is the wrapping of the key in this form under E
abbrev pub IsWrapping : AgreedForm → (List ℕ → List ℕ) → List ℕ → List ℕ → Type 0
IsWrapping (InPlain iv) E key text = Plain E iv key text
IsWrapping InPadded E key text = Padded E key text

-- the form, with this initial value if it is the plain form
abbrev pub with_value : Form → ℕ → AgreedForm
with_value forms.Plain iv = InPlain iv
with_value forms.Padded iv = InPadded

-- the form with the default initial value
abbrev pub by_default : Form → AgreedForm
by_default form = with_value form default_iv

-- the same in this form, with this initial value if it is the plain form
abbrev pub IsWrappingWithIv : Form → ℕ → (List ℕ → List ℕ) → List ℕ → List ℕ → Type 0
IsWrappingWithIv form iv E key text = IsWrapping (with_value form iv) E key text

-- the wrapped key is the standard's wrapping of the key in this form under E: the plain one has the default initial value
abbrev pub IsDefaultWrapping : Form → (List ℕ → List ℕ) → List ℕ → List ℕ → Type 0
IsDefaultWrapping form E key text = IsWrapping (by_default form) E key text

abbrev pub IsKeyLengthAs : AgreedForm → ℕ → Type 0
IsKeyLengthAs (InPlain iv) len = IsPlainKeyLength len
IsKeyLengthAs InPadded len = IsPaddedKeyLength len

abbrev pub IsTextLengthAs : AgreedForm → ℕ → Type 0
IsTextLengthAs (InPlain iv) len = IsPlainTextLength len
IsTextLengthAs InPadded len = IsPaddedTextLength len

-- the wrapped key is not a wrapping in the other form, under any initial value
abbrev pub NoOtherForm : AgreedForm → (List ℕ → List ℕ) → List ℕ → Type 0
NoOtherForm (InPlain iv) E text = NoKey (Padded E) text
NoOtherForm InPadded E text = NoPlainKey E text
