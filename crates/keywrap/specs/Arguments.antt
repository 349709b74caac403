-- What a command is for the arguments that clap parsed, option by option, and why there is none. Clap refuses options that
-- exclude each other.
use Rattle.std.specs.Prelude.{◌≡◌, ◌≢◌, ◌↔◌, ◌⊎◌, ℕ, IsTrue, List, Option, Some, None, codes}
use Rattle.std.specs.Borrow.{Bor}
use Rattle.key_wrap_core.specs.Plain.{IsReserved, default_iv}
use Rattle.key_wrap_core.specs.declared.agreed_form.AgreedForm.{AgreedForm}
use Rattle.key_wrap_core.specs.declared.forms.Form.{Form}
use Rattle.key_wrap_core.specs.declared.forms.Form.TheVariants.{Plain, Padded}
use Rattle.key_wrap_core.specs.Forms.{with_value}
use Rattle.key_wrap_core.specs.declared.rewrapping.RewrapForms.{RewrapForms}
use Rattle.key_wrap_core.specs.declared.rewrapping.RewrapForms.TheVariants.{Kept, Changed}
use Rattle.key_lines.specs.declared.text.TextNotation.{TextNotation}
use Rattle.key_lines.specs.declared.text.TextNotation.TheVariants as texts
use Rattle.keywrap_args.specs.Given.{Has, IsRefusal, IsSet, Lacks, NamesFile, NamesNoFile}
use Rattle.keywrap_args.specs.declared.parser.Args.{Args}
use Rattle.keywrap_args.specs.declared.subcommands.Subcommand.{Subcommand}
use Rattle.keywrap_args.specs.declared.subcommands.Subcommand.TheVariants as words
use Rattle.keywrap_cli.specs.Files.{line_notation}
use Rattle.keywrap_cli.specs.InitialValue.{DenotesIv, IsSixteenDigits}
use Rattle.keywrap_cli.specs.declared.job.Direction.TheVariants as directions
use Rattle.keywrap_cli.specs.declared.fault.ProgramFault.{ProgramFault}
use Rattle.keywrap_cli.specs.declared.fault.ProgramFault.TheVariants.{Iv, NewIv}
use Rattle.keywrap_cli.specs.declared.initial_value.IvFault.{IvFault}
use Rattle.keywrap_cli.specs.declared.initial_value.IvFault.TheVariants.{NotSixteenDigits, Reserved}
use Rattle.keywrap_cli.specs.declared.files.Notation.{Notation}
use Rattle.keywrap_cli.specs.declared.files.Notation.TheVariants.{Raw, Hex, Base64}
use Rattle.keywrap_cli.specs.declared.kek_file.Keks.{Keks}
use Rattle.keywrap_cli.specs.declared.operation.Operation.{Operation}
use Rattle.keywrap_cli.specs.declared.what.Conversion.TheVariants as conversions
use Rattle.keywrap_cli.specs.declared.what.How.{How}
use Rattle.keywrap_cli.specs.declared.what.How.TheVariants.{Whole, Lines}
use Rattle.keywrap_cli.specs.declared.what.What.{What}
use Rattle.keywrap_cli.specs.declared.what.What.TheVariants as whats
use Rattle.keywrap.specs.declared.cli.CommandStop.{CommandStop}
use Rattle.keywrap.specs.declared.cli.CommandStop.TheVariants as stops
use Rattle.keywrap.specs.declared.command.Command.{Command}
use Rattle.keywrap.specs.declared.command.Command.TheVariants.{Run, Drill, Vectors}

-- the padded form with this flag, else the plain form
pub record IsForm (args : Args) (flag : List ℕ) (form : Form) : Type 0 where
  pub padded : IsSet args flag → form ≡ Padded
  pub plain : ¬ IsSet args flag → form ≡ Plain

-- the notation of lines
pub record IsTextNotation (args : Args) (notation : TextNotation) : Type 0 where
  pub base64 : IsSet args (codes "base64") → notation ≡ texts.Base64
  pub base64url : ¬ IsSet args (codes "base64") → IsSet args (codes "base64url") → notation ≡ texts.Base64Url
  pub hex : ¬ IsSet args (codes "base64") → ¬ IsSet args (codes "base64url") → notation ≡ texts.Hex

-- the notation of the KEK files
pub record IsKekNotation (args : Args) (notation : Notation) : Type 0 where
  pub raw : IsSet args (codes "raw-kek") → notation ≡ Raw
  pub base64 : ¬ IsSet args (codes "raw-kek") → IsSet args (codes "base64-kek") → notation ≡ Base64
  pub hex : ¬ IsSet args (codes "raw-kek") → ¬ IsSet args (codes "base64-kek") → notation ≡ Hex

-- the initial value of an option, or the default
pub record IsInitialValue (args : Args) (option : List ℕ) (iv : ℕ) : Type 0 where
  pub own : (digits : List ℕ) → Has args option digits → DenotesIv digits iv × ¬ IsReserved iv
  pub default : Lacks args option → iv ≡ default_iv

-- the form with its initial value
abbrev pub IsAgreedForm : Args → (flag option : List ℕ) → AgreedForm → Type 0
IsAgreedForm args flag option agreed = (form : Form) × (iv : ℕ) × IsForm args flag form × IsInitialValue args option iv × (agreed ≡ with_value form iv)

-- a subcommand with one KEK
abbrev pub IsJob : Subcommand → Type 0
IsJob subcommand = (subcommand ≢ words.Rewrap) × (subcommand ≢ words.Drill) × (subcommand ≢ words.Vectors)

-- the forms of a rewrap
abbrev pub AreForms : Args → RewrapForms → Type 0
AreForms args Kept = IsSet args (codes "keep-form")
AreForms args (Changed old new) = (¬ IsSet args (codes "keep-form")) × IsAgreedForm args (codes "padded") (codes "iv") old × IsAgreedForm args (codes "new-padded") (codes "new-iv") new

-- what is done
abbrev pub IsWhat : Args → Subcommand → What → Type 0
IsWhat args words.Wrap (whats.Convert (conversions.Wrap form)) = IsAgreedForm args (codes "padded") (codes "iv") form
IsWhat args words.Unwrap (whats.Convert (conversions.Unwrap form)) = (¬ IsSet args (codes "any-form")) × IsAgreedForm args (codes "padded") (codes "iv") form
IsWhat args words.Unwrap (whats.Convert (conversions.UnwrapAny iv)) = IsSet args (codes "any-form") × IsInitialValue args (codes "iv") iv
IsWhat args words.Check (whats.Check iv) = IsInitialValue args (codes "iv") iv
IsWhat args words.Rewrap (whats.Rewrap forms pass_new) = AreForms args forms × (IsTrue pass_new ↔ IsSet args (codes "pass-new"))
IsWhat args subcommand what = ⊥

-- the file of the new KEK, which only a rewrap has
abbrev pub IsNewKek : Args → Option (Bor (List ℕ)) → Type 0
IsNewKek args (Some name) = (args.subcommand ≡ words.Rewrap) × NamesFile args (codes "new-kek") name.now
IsNewKek args None = args.subcommand ≢ words.Rewrap

abbrev pub IsOperation : Args → Operation (Bor (List ℕ)) → Type 0
IsOperation args operation =
    IsWhat args args.subcommand operation.what × NamesFile args (codes "kek") operation.keks.kek.now × IsNewKek args operation.keks.new_kek
    × IsKekNotation args operation.keks.notation

-- the file of an option, or a standard stream
abbrev pub IsFile : Args → List ℕ → Option (Bor (List ℕ)) → Type 0
IsFile args option (Some name) = NamesFile args option name.now
IsFile args option None = NamesNoFile args option

-- how the input is read, and the notation of the input and of the output
abbrev pub IsHow : Args → How → Type 0
IsHow args (Whole notation) = (¬ IsSet args (codes "lines")) × (IsSet args (codes "raw") → notation ≡ Raw)
    × (¬ IsSet args (codes "raw") → (own : TextNotation) × IsTextNotation args own × (notation ≡ line_notation own))
IsHow args (Lines options) =
    IsSet args (codes "lines") × IsTextNotation args options.notation × (IsTrue options.keep_going ↔ IsSet args (codes "keep-going"))

abbrev pub IsCommand : Args → Command → Type 0
IsCommand args (Run run) =
    IsOperation args run.operation × IsFile args (codes "input") run.input × IsFile args (codes "output") run.output × IsHow args run.how
    × (IsTrue run.quiet ↔ IsSet args (codes "quiet")) × (IsTrue run.verbose ↔ IsSet args (codes "verbose"))
IsCommand args (Drill form direction hex) =
    (args.subcommand ≡ words.Drill) × IsForm args (codes "padded") form × (IsSet args (codes "unwrap") → direction ≡ directions.Unwrap)
    × (¬ IsSet args (codes "unwrap") → direction ≡ directions.Wrap) × Has args (codes "hex") hex.now
IsCommand args Vectors = args.subcommand ≡ words.Vectors

-- why the value of an option is not an initial value
abbrev pub IsBadValue : Args → List ℕ → IvFault → Type 0
IsBadValue args option NotSixteenDigits = (digits : List ℕ) × Has args option digits × ¬ IsSixteenDigits digits
IsBadValue args option Reserved = (digits : List ℕ) × Has args option digits × ((iv : ℕ) × DenotesIv digits iv × IsReserved iv)

-- why the initial values of a rewrap are refused: the first that is
abbrev pub AreBadValues : Args → ProgramFault → Type 0
AreBadValues args (Iv fault) = IsBadValue args (codes "iv") fault
AreBadValues args (NewIv fault) = ((iv : ℕ) × IsInitialValue args (codes "iv") iv) × IsBadValue args (codes "new-iv") fault
AreBadValues args fault = ⊥

-- the option names a file
abbrev pub NamesSome : Args → List ℕ → Type 0
NamesSome args option = (name : List ℕ) × NamesFile args option name

-- Why there is no job, no rewrap and no drill. An initial value is refused only after each KEK file has its name.
abbrev pub RefusesJob : Args → CommandStop → Type 0
RefusesJob args (stops.Args stop) = IsRefusal stop × NamesNoFile args (codes "kek")
RefusesJob args (stops.Fault (Iv fault)) = NamesSome args (codes "kek") × IsBadValue args (codes "iv") fault
RefusesJob args (stops.Fault fault) = ⊥

abbrev pub RefusesRewrap : Args → CommandStop → Type 0
RefusesRewrap args (stops.Args stop) = IsRefusal stop × (NamesNoFile args (codes "kek") ⊎ NamesNoFile args (codes "new-kek"))
RefusesRewrap args (stops.Fault fault) =
    NamesSome args (codes "kek") × NamesSome args (codes "new-kek") × (¬ IsSet args (codes "keep-form")) × AreBadValues args fault

abbrev pub RefusesDrill : Args → CommandStop → Type 0
RefusesDrill args (stops.Args stop) = IsRefusal stop × Lacks args (codes "hex")
RefusesDrill args (stops.Fault fault) = ⊥

abbrev pub RefusesCommand : Args → Subcommand → CommandStop → Type 0
RefusesCommand args words.Wrap stop = RefusesJob args stop
RefusesCommand args words.Unwrap stop = RefusesJob args stop
RefusesCommand args words.Check stop = RefusesJob args stop
RefusesCommand args words.Rewrap stop = RefusesRewrap args stop
RefusesCommand args words.Drill stop = RefusesDrill args stop
RefusesCommand args words.Vectors stop = ⊥
