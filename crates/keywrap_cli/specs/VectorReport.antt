-- When a vector is right, what calls gave for its bytes, and the lines that report on vectors.
use Rattle.std.specs.Prelude.{◌≡◌, ◌≢◌, ◌⊎◌, ℕ, Bool, true, false, List, [], ◌∷◌, ◌++◌, length, codes, map, Option, Some, None, Vec}
use Rattle.std.specs.List.{AllByRecursion, concat, list_all}
use Rattle.std.specs.declared.alloc.Global.{Global}
use Rattle.fips197.specs.Cipher.{cipher}
use Rattle.fips197.specs.KeyExpansion.{IsKekLength}
use Rattle.block_pair.specs.Words.{IsBlock}
use Rattle.key_wrap_core.specs.Padded.{Padded}
use Rattle.key_wrap_core.specs.Forms.{by_default}
use Rattle.key_wrap_core.specs.Plain.{Plain, default_iv}
use Rattle.key_wrap_core.specs.declared.forms.Form.{Form}
use Rattle.key_wrap_core.specs.declared.forms.Form.TheVariants as forms
use Rattle.keywrap_cli.specs.JobAnswers.{HasNoAnswer, IsAnswer, IsInputLength, conversion}
use Rattle.keywrap_cli.specs.declared.job.Direction.{Direction}
use Rattle.keywrap_cli.specs.declared.job.Direction.TheVariants.{Wrap, Unwrap}
use Rattle.test_vectors.specs.Vectors.{TestVector}
use Rattle.test_vectors.specs.declared.table.Algorithm.{Algorithm}
use Rattle.test_vectors.specs.declared.table.Algorithm.TheVariants.{KeyWrap, KeyWrapWithPadding, Encryption}

-- the algorithm takes the input to the output, under E
abbrev pub Takes : Algorithm → (List ℕ → List ℕ) → List ℕ → List ℕ → Type 0
Takes KeyWrap E input output = Plain E default_iv input output
Takes KeyWrapWithPadding E input output = Padded E input output
Takes Encryption E input output = IsBlock input × (E input ≡ output)

-- a vector is right: its key has a legal length, and its algorithm takes the input to the output under AES of the key
abbrev pub IsRight : TestVector → Type 0
IsRight v = IsKekLength (length v.key) × Takes v.algorithm (cipher v.key) v.input v.output

-- what a call gave: in this direction, by this algorithm, under this key, for these bytes, other bytes or a refusal
abbrev pub Gave : Type 1
Gave = Direction → Algorithm → List ℕ → List ℕ → Option (List ℕ) → Type 0

-- the bytes of a result
abbrev pub bytes_of : Option (Vec ℕ Global) → Option (List ℕ)
bytes_of (Some bytes) = Some bytes.items
bytes_of None = None

-- calls gave the output for the input, and the input for the output
abbrev pub IsReproduced : Gave → TestVector → Type 0
IsReproduced gave v = gave Wrap v.algorithm v.key v.input (Some v.output) × gave Unwrap v.algorithm v.key v.output (Some v.input)

-- a call gave something else for these bytes
abbrev pub Differs : Gave → Direction → Algorithm → (key input output : List ℕ) → Type 0
Differs gave direction algorithm key input output =
    (found : Option (List ℕ)) × gave direction algorithm key input found × (found ≢ Some output)

-- a call gave something else for the input or, if it gave the output, another call for the output
abbrev pub IsMissed : Gave → TestVector → Type 0
IsMissed gave v = Differs gave Wrap v.algorithm v.key v.input v.output
    ⊎ (gave Wrap v.algorithm v.key v.input (Some v.output) × Differs gave Unwrap v.algorithm v.key v.output v.input)

abbrev pub IsVerdict : Gave → TestVector → Bool → Type 0
IsVerdict gave v true = IsReproduced gave v
IsVerdict gave v false = IsMissed gave v

-- the end of a line
abbrev pub verdict : Bool → List ℕ
verdict true = codes " ok\n"
verdict false = codes " failed\n"

-- a vector, and whether its line has `ok`
pub record Line : Type 0 where
  pub vector : TestVector
  pub ok : Bool

abbrev pub line_text : Line → List ℕ
line_text line = line.vector.name ++ verdict line.ok

-- The text has a line for each vector: `ok` if calls gave its bytes in both directions, or `failed` if a call gave
-- something else. all_ok is true exactly if each line has `ok`.
pub record IsReport (gave : Gave) (vectors : List TestVector) (text : List ℕ) (all_ok : Bool) : Type 0 where
  pub lines : List Line
  pub one_each : map (λ (line : Line). line.vector) lines ≡ vectors
  pub written : text ≡ concat (map line_text lines)
  pub right : AllByRecursion (λ line. IsVerdict gave line.vector line.ok) lines
  pub all : all_ok ≡ list_all (λ (line : Line). line.ok) lines

-- a call gave something else for one of the vectors
abbrev pub IsOneMissed : Gave → List TestVector → Type 0
IsOneMissed gave [] = ⊥
IsOneMissed gave (v ∷ vectors) = IsMissed gave v ⊎ IsOneMissed gave vectors

-- the verdict on all vectors
abbrev pub IsVerdictOnAll : Gave → List TestVector → Bool → Type 0
IsVerdictOnAll gave vectors true = AllByRecursion (IsReproduced gave) vectors
IsVerdictOnAll gave vectors false = IsOneMissed gave vectors

-- the one answer to the bytes in a form, under E, or a refusal
abbrev pub Converts : Direction → Form → (List ℕ → List ℕ) → List ℕ → Option (List ℕ) → Type 0
Converts direction form E X (Some Y) = IsAnswer (conversion direction (by_default form)) E X Y
Converts direction form E X None =
    ¬ IsInputLength (conversion direction (by_default form)) (length X) ⊎ HasNoAnswer (conversion direction (by_default form)) E X

-- the block Y is the encryption of the block X
pub record IsEncryption (E : List ℕ → List ℕ) (X Y : List ℕ) : Type 0 where
  pub plain : IsBlock X
  pub encrypted : IsBlock Y
  pub value : E X ≡ Y

-- the same for one block
abbrev pub Codes : Direction → (List ℕ → List ℕ) → List ℕ → Option (List ℕ) → Type 0
Codes Wrap E X (Some Y) = IsEncryption E X Y
Codes Unwrap E X (Some Y) = IsEncryption E Y X × ((other : List ℕ) → IsBlock other → E other ≡ X → other ≡ Y)
Codes direction E X None = ¬ IsBlock X

abbrev pub GivesUnder : Algorithm → Direction → (List ℕ → List ℕ) → List ℕ → Option (List ℕ) → Type 0
GivesUnder KeyWrap direction E X found = Converts direction forms.Plain E X found
GivesUnder KeyWrapWithPadding direction E X found = Converts direction forms.Padded E X found
GivesUnder Encryption direction E X found = Codes direction E X found

-- what the calls of this crate give, under AES of a key with a legal length
abbrev pub LibraryGives : Gave
LibraryGives direction algorithm key X (Some Y) = IsKekLength (length key) × GivesUnder algorithm direction (cipher key) X (Some Y)
LibraryGives direction algorithm key X None = IsKekLength (length key) → GivesUnder algorithm direction (cipher key) X None
