-- What operations answer, and what a run has written.
use Rattle.keywrap_cli.proofs.Common.{◌≡◌, ℕ, List, length, Option, Result, Ok, Err, Vec, IsOk, refl, Keeps-refl, Global, cipher, cipher_by, Answer, IsAnswered, LineFault, Note, Refusal, IsOneLine, printed, Answers, AnswersTo, IsMade, IsPrinted, MayLack, WritesFor, OpensKeks, ReadsInput, last_kek, RunsOperation, RunsUnder, WritesTheAnswer, IsRefusedBefore, RunsInput, WritesAnswer, WritesFrom, WritesOutput, job_fault_of, Conversion, Notation, Ciphers, Keks, Done, JobFault, What}
use Rattle.key_lines.specs.declared.fault.LineFault.TheVariants.{Input, Refused, Memory, TooManyLines}
use Rattle.key_lines.specs.declared.job.Note.TheVariants as notes
use Rattle.key_wrap_core.specs.declared.faults.Refusal.TheVariants as refusals
use Rattle.keywrap_cli.specs.declared.what.What.TheVariants.{Convert}
use Rattle.keywrap_cli.proofs.KekFiles.{keks_weaker, refused_keks, under_keks}

-- what a call answers with the bytes Y, from what it printed
pub printed_answer : (answers : Result Answer Refusal → Type 0) (lacks : Type 0) (notation : Notation) (Y text : List ℕ)
    (result : Result Note (LineFault Refusal)) → IsPrinted notation Y text result
    → (text ≡ printed notation Y → IsOneLine notation text → answers (Ok (record { text = text; note = notes.None }))) → lacks
    → IsAnswered answers lacks text result
printed_answer answers lacks notation Y text (Ok notes.None) h answer none = answer h.1 h.2
printed_answer answers lacks notation Y text (Ok notes.NoKey) h answer none = let no = h.0 in cc
printed_answer answers lacks notation Y text (Ok notes.AlreadyNew) h answer none = let no = h.0 in cc
printed_answer answers lacks notation Y text (Err (Refused refusal)) h answer none = cc
printed_answer answers lacks notation Y text (Err Memory) h answer none = none
printed_answer answers lacks notation Y text (Err (Input fault)) h answer none = cc
printed_answer answers lacks notation Y text (Err TooManyLines) h answer none = cc

-- what is answered to bytes, from what a conversion makes of them
pub converted_fault : (conversion : Conversion) (notation : Notation) (E F : List ℕ → List ℕ) (X made text : List ℕ)
    (fault : LineFault Refusal) → IsMade conversion E X made (Err fault) → AnswersTo (Convert conversion) notation E F X text (Err fault)
converted_fault conversion notation E F X made text (Refused refusals.BadLength) h = h
converted_fault conversion notation E F X made text (Refused refusals.Integrity) h = h
converted_fault conversion notation E F X made text (Refused refusals.KeyNotPlain) h = h
converted_fault conversion notation E F X made text Memory h = h
converted_fault conversion notation E F X made text (Input fault) h = h
converted_fault conversion notation E F X made text TooManyLines h = h

pub converted : (conversion : Conversion) (notation : Notation) (E F : List ℕ → List ℕ) (X Y text : List ℕ) (result : Result Note (LineFault Refusal))
    → IsMade conversion E X Y (Ok tt) → IsPrinted notation Y text result → AnswersTo (Convert conversion) notation E F X text result
converted conversion notation E F X Y text result made printed =
    printed_answer (Answers (Convert conversion) notation E F X) (MayLack (Convert conversion) E F X) notation Y text result printed
    (λ is line. ((Y, made.1, (is, refl)), line)) made.0

-- without an answer nothing is written
pub failed_write : (answers : List ℕ → Result Answer Refusal → Type 0) (lacks : List ℕ → Type 0) (X text : List ℕ) (out : Option (List ℕ))
    (fault : LineFault Refusal) → IsAnswered (answers X) (lacks X) text (Err fault) → WritesAnswer answers lacks X out out (Err (job_fault_of fault))
failed_write answers lacks X text out (Refused refusals.BadLength) h = (h, Keeps-refl out)
failed_write answers lacks X text out (Refused refusals.Integrity) h = (h, Keeps-refl out)
failed_write answers lacks X text out (Refused refusals.KeyNotPlain) h = (h, Keeps-refl out)
failed_write answers lacks X text out Memory h = (h, Keeps-refl out)
failed_write answers lacks X text out (Input fault) h = absurd h
failed_write answers lacks X text out TooManyLines h = absurd h

-- a result is not a fault
pub not_fault : {T E : Type 0} (result : Result T E) (fault : E) → result ≡ Err fault → IsOk result → ⊥
not_fault (Ok value) fault e ok = cc
not_fault (Err other) fault e ok = cc

-- what was written for an input that was answered
written_output : (what : What) (notation : Notation) (E F : List ℕ → List ℕ) (input input' out out' : Option (List ℕ)) (result : Result Done JobFault)
    → IsOk result → RunsUnder what notation E F input input' out out' result → WritesOutput notation (WritesFor what notation E F) input input' out out'
written_output what notation E F input input' out out' (Err fault) ok run = cc
written_output what notation E F input input' out out' (Ok done) ok run = from run.text run.read run.rest
  where
    from : (text : Result (Vec ℕ Global) JobFault) → ReadsInput notation input input' text
        → WritesFrom (Answers what notation E F) (MayLack what E F) text out out' (Ok done)
        → WritesOutput notation (WritesFor what notation E F) input input' out out'
    from (Ok X) read rest = record {
      X = X.items;
      output = rest.0.text;
      read = read;
      is_output = (rest.0, rest.1.0, refl);
      written = rest.3;
    }
    from (Err fault) read rest = let no = rest.0 in cc

pub headline : (what : What) (notation : Notation) (keks keks' : Keks (Option (List ℕ))) (input input' out out' : Option (List ℕ))
    (result : Result Done JobFault) → RunsOperation what notation keks keks' input input' out out' result → IsOk result
    → WritesTheAnswer what notation keks keks' input input' out out'
headline what notation keks keks' input input' out out' result run ok =
    keks_weaker keks keks' (λ K L. RunsUnder what notation (cipher K) (cipher L) input input' out out' result)
    (λ K L. WritesOutput notation (WritesFor what notation (cipher K) (cipher L)) input input' out out')
    (λ fault. IsRefusedBefore fault input input' out out' result) (λ _. ⊥)
    (λ K L h. written_output what notation (cipher K) (cipher L) input input' out out' result ok h) (λ fault h. not_fault result fault h.0 ok) run

-- a run whose KEKs were read
pub whole_run : (what : What) (notation : Notation) (keks keks' : Keks (Option (List ℕ))) (ciphers : Ciphers)
    (input input' out out' : Option (List ℕ)) (result : Result Done JobFault) → OpensKeks keks keks' (Ok ciphers)
    → RunsUnder what notation (cipher_by ciphers.kek) (cipher_by (last_kek ciphers.kek ciphers.new_kek)) input input' out out' result
    → RunsOperation what notation keks keks' input input' out out' result
whole_run what notation keks keks' ciphers input input' out out' result opened run =
    under_keks keks keks' ciphers (λ w v. RunsUnder what notation (cipher_by w) (cipher_by v) input input' out out' result)
    (λ fault. IsRefusedBefore fault input input' out out' result) opened run

-- a run that was refused a KEK
pub refused_run : (what : What) (notation : Notation) (keks keks' : Keks (Option (List ℕ))) (input out : Option (List ℕ)) (fault : JobFault)
    → OpensKeks keks keks' (Err fault) → RunsOperation what notation keks keks' input input out out (Err fault)
refused_run what notation keks keks' input out fault opened =
    refused_keks keks keks' fault (λ K L. RunsUnder what notation (cipher K) (cipher L) input input out out (Err fault))
    (λ f. IsRefusedBefore {T = Done} f input input out out (Err fault)) opened (refl, refl, refl)
