-- What the arguments of a subcommand are, as clap parsed them.
use Rattle.std.specs.Prelude.{◌≡◌, ◌⊎◌, ⊤, ℕ, List, Option, Some, None, codes}
use Rattle.clap.specs.Matches.{first_value, found_of}
use Rattle.keywrap_args.specs.declared.parser.Args.{Args}
use Rattle.keywrap_args.specs.declared.parser.ParseStop.{ParseStop}
use Rattle.keywrap_args.specs.declared.parser.ParseStop.TheVariants.{Help, Usage, Memory}

-- the value of an argument
unfoldable pub given : Args → List ℕ → Option (List ℕ)
given args name = first_value (found_of args.matches) name

-- the argument of this name has this value
abbrev pub Has : Args → List ℕ → List ℕ → Type 0
Has args name value = given args name ≡ Some value

-- the argument of this name is not given
abbrev pub Lacks : Args → List ℕ → Type 0
Lacks args name = given args name ≡ None

-- the flag of this name is given
abbrev pub IsSet : Args → List ℕ → Type 0
IsSet args name = given args name ≡ Some (codes "true")

-- the option names this file
abbrev pub NamesFile : Args → List ℕ → List ℕ → Type 0
NamesFile args option name = Has args option name × ¬ (name ≡ codes "-")

-- the option names no file: it is not given, or its value is `-`
abbrev pub NamesNoFile : Args → List ℕ → Type 0
NamesNoFile args option = Lacks args option ⊎ Has args option (codes "-")

-- a message on refused arguments, or no memory for it
abbrev pub IsRefusal : ParseStop → Type 0
IsRefusal (Help text) = ⊥
IsRefusal (Usage text) = ⊤
IsRefusal Memory = ⊤
