-- The answers of operations to bytes: the bytes of an input or of a line. E is the block permutation under the KEK, and F
-- the one under the new KEK, which only a rewrap uses. An output is in the notation of the input. Wrapping and unwrapping
-- in a form come first, in terms of key_wrap_core.
use Rattle.std.specs.Prelude.{◌≡◌, ⊤, ℕ, List, [], ◌∷◌, ◌++◌, length, codes, Result, Ok, Err}
use Rattle.std.specs.Fmt.{decimal}
use Rattle.key_lines.specs.LineAnswers.{Answer, IsAnswered}
use Rattle.key_lines.specs.declared.fault.LineFault.{LineFault}
use Rattle.key_lines.specs.declared.fault.LineFault.TheVariants.{Refused, Memory}
use Rattle.key_lines.specs.declared.job.Note.{Note}
use Rattle.key_lines.specs.declared.job.Note.TheVariants as notes
use Rattle.key_wrap_core.specs.NoKey.{NoKey}
use Rattle.key_wrap_core.specs.Forms.{IsWrappingWithIv, with_value, IsWrapping, NoOtherForm, IsKeyLengthAs, IsTextLengthAs}
use Rattle.key_wrap_core.specs.Kind.{IsKindWith}
use Rattle.key_wrap_core.specs.Lengths.{IsPaddedTextLength}
use Rattle.key_wrap_core.specs.Rewrap.{IsRefused, IsRewrapping}
use Rattle.key_wrap_core.specs.declared.agreed_form.AgreedForm.{AgreedForm}
use Rattle.key_wrap_core.specs.declared.faults.InPlaceFault.{InPlaceFault}
use Rattle.key_wrap_core.specs.declared.faults.InPlaceFault.TheVariants as in_place
use Rattle.key_wrap_core.specs.declared.faults.Refusal.{Refusal}
use Rattle.key_wrap_core.specs.declared.faults.Refusal.TheVariants.{BadLength, Integrity, KeyNotPlain}
use Rattle.key_wrap_core.specs.declared.rewrapping.Rewrapped.{Rewrapped}
use Rattle.key_wrap_core.specs.declared.rewrapping.Rewrapped.TheVariants.{Fresh, AlreadyNew}
use Rattle.key_wrap_core.specs.declared.forms.Form.{Form}
use Rattle.key_wrap_core.specs.declared.forms.Kind.{Kind}
use Rattle.key_wrap_core.specs.declared.forms.Kind.TheVariants as kinds
use Rattle.key_wrap_core.specs.declared.agreed_form.AgreedForm.TheVariants.{Plain, Padded}
use Rattle.key_wrap_core.specs.InPlace.{ArePaddedLengths, ArePlainLengths, IsPaddedRoom}
use Rattle.keywrap_cli.specs.Files.{IsOneLine, printed}
use Rattle.keywrap_cli.specs.declared.job.Direction.{Direction}
use Rattle.keywrap_cli.specs.declared.job.Direction.TheVariants as directions
use Rattle.keywrap_cli.specs.declared.outcome.Done.{Done}
use Rattle.keywrap_cli.specs.declared.outcome.Done.TheVariants.{Written, Neither}
use Rattle.keywrap_cli.specs.declared.files.Notation.{Notation}
use Rattle.keywrap_cli.specs.declared.what.Conversion.{Conversion}
use Rattle.keywrap_cli.specs.declared.what.Conversion.TheVariants.{Wrap, Unwrap, UnwrapAny}
use Rattle.keywrap_cli.specs.declared.what.What.{What}
use Rattle.keywrap_cli.specs.declared.what.What.TheVariants.{Convert, Check, Rewrap}

-- the legal lengths of a key to wrap, or of a wrapped key to unwrap; the padded form has all lengths of the plain form
abbrev pub IsInputLength : Conversion → ℕ → Type 0
IsInputLength (Wrap form) len = IsKeyLengthAs form len
IsInputLength (Unwrap form) len = IsTextLengthAs form len
IsInputLength (UnwrapAny iv) len = IsPaddedTextLength len

-- the lengths of an input, and of the buffer into which it is converted
abbrev pub HasRoom : Conversion → (input output : ℕ) → Type 0
HasRoom (Wrap (Plain iv)) input output = ArePlainLengths input output
HasRoom (Wrap Padded) input output = IsPaddedRoom input output
HasRoom (Unwrap (Plain iv)) input output = ArePlainLengths output input
HasRoom (Unwrap Padded) input output = ArePaddedLengths output input
HasRoom (UnwrapAny iv) input output = ArePaddedLengths output input

-- `text` is the only wrapping of the key, which has a legal length
pub record IsTextOf (form : AgreedForm) (E : List ℕ → List ℕ) (key text : List ℕ) : Type 0 where
  pub legal : IsTextLengthAs form (length text)
  pub wrapping : IsWrapping form E key text
  pub alone : (other : List ℕ) → IsWrapping form E key other → other ≡ text

-- `text` is the wrapping of this key, and of no other. Wrapping the key again restores `text`. In the other form `text`
-- is not a wrapping, under any initial value.
pub record IsKeyOf (form : AgreedForm) (E : List ℕ → List ℕ) (text key : List ℕ) : Type 0 where
  pub wrapping : IsWrapping form E key text
  pub alone : (other : List ℕ) → IsWrapping form E other text → other ≡ key
  pub restores : (other : List ℕ) → IsWrapping form E key other → other ≡ text
  pub one_form : NoOtherForm form E text

-- the bytes Y are the one answer to the bytes X
abbrev pub IsAnswer : Conversion → (List ℕ → List ℕ) → List ℕ → List ℕ → Type 0
IsAnswer (Wrap form) E X Y = IsTextOf form E X Y
IsAnswer (Unwrap form) E X Y = IsKeyOf form E X Y
IsAnswer (UnwrapAny iv) E X Y = (form : Form) × IsKeyOf (with_value form iv) E X Y

-- an unwrapping is refused because its input is not a wrapping; a wrapping never is
abbrev pub HasNoAnswer : Conversion → (List ℕ → List ℕ) → List ℕ → Type 0
HasNoAnswer (Wrap form) E X = ⊥
HasNoAnswer (Unwrap form) E X = NoKey (IsWrapping form E) X
HasNoAnswer (UnwrapAny iv) E X = (own : Form) → NoKey (IsWrappingWithIv own iv E) X

-- the bytes X are refused, for their length or as the wrapping of no key
abbrev pub RefusesConversion : Conversion → (List ℕ → List ℕ) → List ℕ → Refusal → Type 0
RefusesConversion conversion E X BadLength = ¬ IsInputLength conversion (length X)
RefusesConversion conversion E X Integrity = IsInputLength conversion (length X) × HasNoAnswer conversion E X
RefusesConversion conversion E X KeyNotPlain = ⊥

-- the line of a check, with the form and the key's length in decimal, and the note on it
abbrev pub kind_line : Kind → List ℕ
kind_line (kinds.Plain m) = codes "plain " ++ decimal m ++ 10 ∷ []
kind_line (kinds.Padded m) = codes "padded " ++ decimal m ++ 10 ∷ []
kind_line kinds.Neither = codes "none\n"

abbrev pub kind_note : Kind → Note
kind_note (kinds.Plain m) = notes.None
kind_note (kinds.Padded m) = notes.None
kind_note kinds.Neither = notes.NoKey

-- a rewrap notes that the text was new already, and nothing else
abbrev pub rewrap_note : Rewrapped → Note
rewrap_note Fresh = notes.None
rewrap_note AlreadyNew = notes.AlreadyNew

-- the answer has these bytes in the notation, and this note
abbrev pub Has : Answer → Notation → List ℕ → Note → Type 0
Has answer notation bytes note = (answer.text ≡ printed notation bytes) × (answer.note ≡ note)

-- the answer to the bytes X: the wrapping of the key X, the key whose wrapping is X, the line of a check of X, or the
-- new wrapping of the key whose wrapping is X
abbrev pub Makes : What → Notation → (E F : List ℕ → List ℕ) → List ℕ → Answer → Type 0
Makes (Convert conversion) notation E F X answer = (Y : List ℕ) × IsAnswer conversion E X Y × Has answer notation Y notes.None
Makes (Check iv) notation E F X answer =
    (kind : Kind) × IsKindWith iv E X kind × (answer.text ≡ kind_line kind) × (answer.note ≡ kind_note kind)
Makes (Rewrap forms pass_new) notation E F X answer =
    (rewrapped : Rewrapped) × (text : List ℕ) × IsRewrapping pass_new forms E F X (Ok rewrapped) text
    × Has answer notation text (rewrap_note rewrapped)

-- the text is one of an answer to the bytes X
abbrev pub WritesFor : What → Notation → (E F : List ℕ → List ℕ) → (X text : List ℕ) → Type 0
WritesFor what notation E F X text = (answer : Answer) × Makes what notation E F X answer × (text ≡ answer.text)

-- The bytes X are refused: for their length, as the wrapping of no key, or of a key whose length is not legal in the new
-- form. A wrap is only refused for the length, a check never.
abbrev pub Refuses : What → (E F : List ℕ → List ℕ) → List ℕ → Refusal → Type 0
Refuses (Convert conversion) E F X fault = RefusesConversion conversion E X fault
Refuses (Check iv) E F X fault = ⊥
Refuses (Rewrap forms pass_new) E F X fault = IsRefused pass_new forms E F X fault

-- the answer to the bytes X, or their refusal
abbrev pub Answers : What → Notation → (E F : List ℕ → List ℕ) → List ℕ → Result Answer Refusal → Type 0
Answers what notation E F X (Ok answer) = Makes what notation E F X answer × IsOneLine notation answer.text
Answers what notation E F X (Err fault) = Refuses what E F X fault

-- the bytes X for whose answer memory may be lacking: their length is legal or, for a rewrap, they have a rewrapping
abbrev pub MayLack : What → (E F : List ℕ → List ℕ) → List ℕ → Type 0
MayLack (Convert conversion) E F X = IsInputLength conversion (length X)
MayLack (Check iv) E F X = ⊤
MayLack (Rewrap forms pass_new) E F X =
    (rewrapped : Rewrapped) × (text : List ℕ) × IsRewrapping pass_new forms E F X (Ok rewrapped) text

-- what a call has for the bytes X: their answer with this text, their refusal, or no memory
abbrev pub AnswersTo : What → Notation → (E F : List ℕ → List ℕ) → (X text : List ℕ) → Result Note (LineFault Refusal) → Type 0
AnswersTo what notation E F X text result = IsAnswered (Answers what notation E F X) (MayLack what E F X) text result

-- the conversion in a direction and a form
abbrev pub conversion : Direction → AgreedForm → Conversion
conversion directions.Wrap form = Wrap form
conversion directions.Unwrap form = Unwrap form

-- the refusal for the fault of a conversion
abbrev pub job_refusal : InPlaceFault → Refusal
job_refusal in_place.BadLength = BadLength
job_refusal in_place.Integrity = Integrity

-- what a call made of the bytes X in this output, by cases; without memory the output may have any bytes
abbrev pub IsMade : Conversion → (List ℕ → List ℕ) → (X output : List ℕ) → Result Unit (LineFault Refusal) → Type 0
IsMade conversion E X output (Ok done) = IsInputLength conversion (length X) × IsAnswer conversion E X output
IsMade conversion E X output (Err (Refused refusal)) = RefusesConversion conversion E X refusal
IsMade conversion E X output (Err Memory) = IsInputLength conversion (length X)
IsMade conversion E X output (Err fault) = ⊥

-- a call printed the bytes Y as this text, one line unless the notation is raw; or memory was lacking
abbrev pub IsPrinted : Notation → List ℕ → List ℕ → Result Note (LineFault Refusal) → Type 0
IsPrinted notation Y text (Ok note) = (note ≡ notes.None) × (text ≡ printed notation Y) × IsOneLine notation text
IsPrinted notation Y text (Err fault) = fault ≡ Memory

-- the result of a call whose answer has this note
abbrev pub done_of : Note → Done
done_of notes.None = Written
done_of notes.NoKey = Neither
done_of notes.AlreadyNew = Written

-- the result of a conversion of the bytes X, by cases
abbrev pub MakesConversion : Conversion → (List ℕ → List ℕ) → List ℕ → Result (List ℕ) InPlaceFault → Type 0
MakesConversion conversion E X (Ok Y) = IsAnswer conversion E X Y
MakesConversion conversion E X (Err fault) = RefusesConversion conversion E X (job_refusal fault)
