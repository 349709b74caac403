-- The first steps of a call: each KEK file is read and gives a KEK, its input file is read and gives bytes.
use Rattle.std.specs.Prelude.{◌≡◌, ◌↔◌, ℕ, IsTrue, List, length, Option, Some, None, IsSome, Result, Ok, Err, Vec, IsOkAnd, MatchResult}
use Rattle.std.specs.declared.alloc.Global.{Global}
use Rattle.fips197.specs.KeyExpansion.{IsKekLength, key_expansion}
use Rattle.key_files.specs.FileReading.{ReadsAs}
use Rattle.key_files.specs.declared.fault.FileFault.{FileFault}
use Rattle.key_files.specs.declared.fault.FileFault.TheVariants as files
use Rattle.keywrap_cli.specs.Files.{meaning_in}
use Rattle.keywrap_cli.specs.declared.outcome.JobFault.{JobFault}
use Rattle.keywrap_cli.specs.declared.outcome.JobFault.TheVariants.{KekFile, KekLength, NewKekFile, NewKekLength, InputFile, Memory}
use Rattle.keywrap_cli.specs.declared.kek_file.Ciphers.{Ciphers}
use Rattle.keywrap_cli.specs.declared.kek_file.KekRole.{KekRole}
use Rattle.keywrap_cli.specs.declared.kek_file.KekRole.TheVariants.{Kek, NewKek}
use Rattle.keywrap_cli.specs.declared.kek_file.Keks.{Keks}
use Rattle.keywrap_cli.specs.declared.files.Notation.{Notation}

-- the effect of a call that reads a file of at most 4,194,304 bytes, and its result: the bytes that the file denotes
abbrev pub ReadsFile : Notation → Option (List ℕ) → Option (List ℕ) → Result (List ℕ) FileFault → Type 0
ReadsFile notation old new answer = ReadsAs (meaning_in notation) 4194304 old new answer

-- the same for a KEK file: the KEK, or why there is none: the file's fault, or the length of the KEK
abbrev pub ReadsKek : Notation → Option (List ℕ) → Option (List ℕ) → Result (List ℕ) (Option FileFault) → Type 0
ReadsKek notation old new (Ok K) = ReadsFile notation old new (Ok K) × IsKekLength (length K)
ReadsKek notation old new (Err (Some fault)) = ReadsFile notation old new (Err fault)
ReadsKek notation old new (Err None) = (K : List ℕ) × ReadsFile notation old new (Ok K) × ¬ IsKekLength (length K)

-- a job's fault for a file's fault: a failed allocation is the job's own fault, and any other names the file
abbrev pub named_fault_of : (FileFault → JobFault) → FileFault → JobFault
named_fault_of name files.Memory = Memory
named_fault_of name fault = name fault

-- the same for the input file
abbrev pub ReadsInput : Notation → Option (List ℕ) → Option (List ℕ) → Result (Vec ℕ Global) JobFault → Type 0
ReadsInput notation old new (Ok X) = ReadsFile notation old new (Ok X.items)
ReadsInput notation old new (Err fault) =
    (why : FileFault) × ReadsFile notation old new (Err why) × (fault ≡ named_fault_of (λ f. InputFile f) why)

-- an operation's fault for a missing KEK
abbrev pub kek_fault_of : KekRole → Option FileFault → JobFault
kek_fault_of Kek (Some fault) = named_fault_of (λ f. KekFile f) fault
kek_fault_of Kek None = KekLength
kek_fault_of NewKek (Some fault) = named_fault_of (λ f. NewKekFile f) fault
kek_fault_of NewKek None = NewKekLength

-- the result of a call that reads a KEK K from a file: AES under it, or the operation's fault
abbrev pub OpensKek : KekRole → Notation → Option (List ℕ) → Option (List ℕ) → List ℕ → Result (List ℕ) JobFault → Type 0
OpensKek role notation old new K (Ok aes) = ReadsKek notation old new (Ok K) × (aes ≡ key_expansion K)
OpensKek role notation old new K (Err fault) =
    (why : Option FileFault) × ReadsKek notation old new (Err why) × (fault ≡ kek_fault_of role why)

-- The effect of a call that reads a KEK file: if the file denotes a KEK, `Then` holds for it, and otherwise `Refused`
-- for the reason.
pub record UnderKek (notation : Notation) (file file' : Option (List ℕ)) (Then : List ℕ → Type 0) (Refused : (Option FileFault) → Type 0)
    : Type 0 where
  pub found : Result (List ℕ) (Option FileFault)
  pub read : ReadsKek notation file file' found
  pub rest : MatchResult found Then Refused

-- the same for the file of the new KEK, if there is one; without it the KEK stays the same
abbrev pub UnderNewKek : Notation → (file file' : Option (Option (List ℕ))) → List ℕ → (List ℕ → Type 0) → (Option FileFault → Type 0) → Type 0
UnderNewKek notation None None K Then Refused = Then K
UnderNewKek notation (Some file) (Some file') K Then Refused = UnderKek notation file file' Then Refused
UnderNewKek notation file file' K Then Refused = ⊥

-- The effect of a call that reads the KEK files: `Then` holds for the KEK and the new KEK, or `Refused` for the fault. The
-- new KEK's file is read only after the KEK is accepted.
abbrev pub UnderKeks : (keks keks' : Keks (Option (List ℕ))) → (List ℕ → List ℕ → Type 0) → (JobFault → Type 0) → Type 0
UnderKeks keks keks' Then Refused = UnderKek keks.notation keks.kek keks'.kek
    (λ K. UnderNewKek keks.notation keks.new_kek keks'.new_kek K (λ L. Then K L) (λ why. Refused (kek_fault_of NewKek why)))
    (λ why. (keks'.new_kek ≡ keks.new_kek) × Refused (kek_fault_of Kek why))

-- what is known of KEK files: of both, of the only one, and of those of an operation
abbrev pub two_keks : Notation → (kek new_kek : Option (List ℕ)) → Keks (Option (List ℕ))
two_keks notation kek new_kek = record { notation = notation; kek = kek; new_kek = Some new_kek }

abbrev pub one_kek : Notation → Option (List ℕ) → Keks (Option (List ℕ))
one_kek notation kek = record { notation = notation; kek = kek; new_kek = None }

abbrev pub known_new : {K : Type 0} → (K → Option (List ℕ)) → Option K → Option (Option (List ℕ))
known_new known (Some file) = Some (known file)
known_new known None = None

abbrev pub known_keks : {K : Type 0} → (K → Option (List ℕ)) → Keks K → Keks (Option (List ℕ))
known_keks known keks = record { notation = keks.notation; kek = known keks.kek; new_kek = known_new known keks.new_kek }

-- the new KEK, or the only one
abbrev pub last_kek : {K : Type 0} → K → Option K → K
last_kek kek (Some new_kek) = new_kek
last_kek kek None = kek

-- AES under these KEKs, and whether there is a new one, which is the same key
pub record AreCiphers (new_kek : Option (Option (List ℕ))) (K L : List ℕ) (ciphers : Ciphers) : Type 0 where
  pub kek : key_expansion K ≡ ciphers.kek
  pub last : key_expansion L ≡ last_kek ciphers.kek ciphers.new_kek
  pub same : IsTrue ciphers.same ↔ (IsSome new_kek × (K ≡ L))

-- the result of the call that reads the KEK files
abbrev pub OpensKeks : (keks keks' : Keks (Option (List ℕ))) → Result Ciphers JobFault → Type 0
OpensKeks keks keks' result =
    UnderKeks keks keks' (λ K L. IsOkAnd result (λ ciphers. AreCiphers keks.new_kek K L ciphers)) (λ fault. result ≡ Err fault)
