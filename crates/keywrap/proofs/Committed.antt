-- How a run ends, from what is known as its output is committed.
use Rattle.std.proofs.Common.{◌≡◌, ◌≢◌, ◌⊎◌, ℕ, List, Option, Some, None, Result, Ok, Err, MatchResult, IfErr, sym, ap, subst, ◌∙◌, inl, inr}
use Rattle.keywrap_cli.specs.declared.fault.ProgramFault.{ProgramFault}
use Rattle.keywrap_cli.specs.declared.fault.ProgramFault.TheVariants as program
use Rattle.keywrap_cli.specs.declared.kek_file.Keks.{Keks}
use Rattle.keywrap_io.specs.Places.{IsOldOrNew, KeepsFiles, KeepsOthers, place}
use Rattle.keywrap_io.specs.declared.streams.LostStream.{LostStream}
use Rattle.keywrap_io.specs.declared.streams.LostStream.TheVariants as lost
use Rattle.keywrap_io.specs.declared.streams.StreamKind.{StreamKind}
use Rattle.keywrap.specs.declared.command.Run.{Run}
use Rattle.keywrap.specs.Session.{AnswersRun, AreKeks, AreOpened, Begins, CannotCreateOutput, Commits, EndsRun, IsDone, IsRefused, IsSaved, WritesRawToTerminal, fault_of, input_lost, input_open, kek_open, new_kek_open, operation, output_lost, output_memory, output_open, raw_to_terminal, unsaved}

old_or_new : (Holds Holds1 Holds2 : Option (List ℕ) → Option (List ℕ) → Type 0) (at new : Option (List ℕ)) → KeepsFiles Holds Holds1
    → IsOldOrNew Holds1 Holds2 at new → IsOldOrNew Holds Holds2 at new
old_or_new Holds Holds1 Holds2 None new kept saved = tt
old_or_new Holds Holds1 Holds2 (Some name) new kept saved = (
  (λ old holds. saved.0 old ((kept name old).0 holds)),
  (λ bytes holds. elim (saved.1 bytes holds) [
    | inl same ↦ inl ((kept name bytes).1 same)
    | inr whole ↦ inr whole
  ]),
)

-- files that are kept twice are kept
pub kept_twice : (Holds Holds1 Holds2 : Option (List ℕ) → Option (List ℕ) → Type 0) → KeepsFiles Holds Holds1 → KeepsFiles Holds1 Holds2
    → KeepsFiles Holds Holds2
kept_twice Holds Holds1 Holds2 first then = λ name bytes.
    ((λ holds. (then name bytes).0 ((first name bytes).0 holds)), (λ holds. (first name bytes).1 ((then name bytes).1 holds)))

pub others_kept : (Holds Holds1 Holds2 : Option (List ℕ) → Option (List ℕ) → Type 0) (at : Option (List ℕ)) → KeepsFiles Holds Holds1
    → KeepsOthers Holds1 Holds2 at → KeepsOthers Holds Holds2 at
others_kept Holds Holds1 Holds2 at first then = λ name bytes other.
    ((λ holds. (then name bytes other).0 ((first name bytes).0 holds)), (λ holds. (first name bytes).1 ((then name bytes other).1 holds)))

module _ (Reads Holds Holds1 Holds2 : Option (List ℕ) → Option (List ℕ) → Type 0) (CannotRead : Option (List ℕ) → Type 0)
    (CannotCreate : List ℕ → Type 0) (CannotOccupy : LostStream → Type 0) (run : Run) (stdout : StreamKind)
    (keks : Keks (Option (List ℕ))) (input out : Option (List ℕ)) (opened : AreOpened Reads run keks input)
    (begins : Begins Holds run.output out) (kept : KeepsFiles Holds Holds1) where
  done : (out' : Option (List ℕ)) (ending : Result ℕ ProgramFault) (status : ℕ)
      → EndsRun run.operation.what run.how keks input out out' ending
      → (ending ≡ Ok 0 → AnswersRun run.operation.what run.how keks input out out')
      → IsSaved Holds1 Holds2 (place run.output) out' ending (Ok status) → IsDone Reads Holds Holds2 run status
  done out' (Ok own) status ends answers saved = record {
    keks = keks;
    input = input;
    opened = opened;
    out = out;
    out' = out';
    begins = begins;
    ends = subst (λ it. EndsRun run.operation.what run.how keks input out out' (Ok it)) (sym saved.0) ends;
    answers = λ zero. answers (ap (λ it. Ok it) (sym saved.0 ∙ zero));
    stored = saved.1;
  }
  done out' (Err fault) status ends answers saved = let no : Ok status ≡ Err fault = saved.0 in absurd (cc)

  refused : (out' : Option (List ℕ)) (ending : Result ℕ ProgramFault) (fault : ProgramFault)
      → EndsRun run.operation.what run.how keks input out out' ending
      → IsSaved Holds1 Holds2 (place run.output) out' ending (Err fault)
      → IsRefused Reads Holds Holds2 CannotRead CannotCreate CannotOccupy run stdout fault
  refused out' (Err why) fault ends saved = operation fault (record {
    keks = keks;
    input = input;
    opened = opened;
    out = out;
    out' = out';
    begins = begins;
    ends = subst (λ it. EndsRun run.operation.what run.how keks input out out' it) (sym saved.0) ends;
  })
  refused out' (Ok status) fault ends saved =
      subst (λ it. IsRefused Reads Holds Holds2 CannotRead CannotCreate CannotOccupy run stdout it) (sym saved.0) (unsaved (record {
        keks = keks;
        input = input;
        opened = opened;
        out = out;
        out' = out';
        begins = begins;
        status = status;
        ends = ends;
        stored = old_or_new Holds Holds1 Holds2 (place run.output) out' kept saved.1;
      }))

  kept_unless : (out' : Option (List ℕ)) (ending : Result ℕ ProgramFault) (fault : ProgramFault)
      → IsSaved Holds1 Holds2 (place run.output) out' ending (Err fault) → fault ≢ program.Flush → KeepsFiles Holds Holds2
  kept_unless out' (Err why) fault saved other = kept_twice Holds Holds1 Holds2 kept saved.1
  kept_unless out' (Ok status) fault saved other = absurd (other saved.0)

  pub commits_ends : {R : Type 0} (fault : R → ProgramFault) (result : Result ℕ R)
      → Commits Holds1 Holds2 run.operation.what run.how (place run.output) keks input out (fault_of fault result)
      → MatchResult result (λ status. IsDone Reads Holds Holds2 run status)
      (λ why. IsRefused Reads Holds Holds2 CannotRead CannotCreate CannotOccupy run stdout (fault why))
  commits_ends fault (Ok status) commits = done commits.out' commits.ending status commits.ends commits.answers commits.saved
  commits_ends fault (Err why) commits = refused commits.out' commits.ending (fault why) commits.ends commits.saved

  pub commits_keeps : {R : Type 0} (fault : R → ProgramFault) (result : Result ℕ R)
      → Commits Holds1 Holds2 run.operation.what run.how (place run.output) keks input out (fault_of fault result)
      → IfErr result (λ why. fault why ≢ program.Flush → KeepsFiles Holds Holds2)
  commits_keeps fault (Ok status) commits = tt
  commits_keeps fault (Err why) commits = kept_unless commits.out' commits.ending (fault why) commits.saved

-- the refusals before the operation
module _ {Reads Holds Holds' : Option (List ℕ) → Option (List ℕ) → Type 0} {CannotRead : Option (List ℕ) → Type 0}
    {CannotCreate : List ℕ → Type 0} {CannotOccupy : LostStream → Type 0} {run : Run} {stdout : StreamKind} where
  refused_for : (this fault : ProgramFault) → fault ≡ this → IsRefused Reads Holds Holds' CannotRead CannotCreate CannotOccupy run stdout this
      → IsRefused Reads Holds Holds' CannotRead CannotCreate CannotOccupy run stdout fault
  refused_for this fault same why = subst (λ it. IsRefused Reads Holds Holds' CannotRead CannotCreate CannotOccupy run stdout it) (sym same) why

  pub raw_refused : (fault : ProgramFault) → fault ≡ program.RawToTerminal → WritesRawToTerminal run stdout
      → IsRefused Reads Holds Holds' CannotRead CannotCreate CannotOccupy run stdout fault
  raw_refused fault same why = refused_for program.RawToTerminal fault same (raw_to_terminal why)

  pub input_is_lost : (fault : ProgramFault) → fault ≡ program.InputOpen → CannotOccupy lost.Input
      → IsRefused Reads Holds Holds' CannotRead CannotCreate CannotOccupy run stdout fault
  input_is_lost fault same why = refused_for program.InputOpen fault same (input_lost why)

  pub output_is_lost : (fault : ProgramFault) → fault ≡ program.OutputOpen → CannotOccupy lost.Output
      → IsRefused Reads Holds Holds' CannotRead CannotCreate CannotOccupy run stdout fault
  output_is_lost fault same why = refused_for program.OutputOpen fault same (output_lost why)

  pub kek_refused : (fault : ProgramFault) → (fault ≡ program.KekOpen) × CannotRead (Some run.operation.keks.kek.now)
      → IsRefused Reads Holds Holds' CannotRead CannotCreate CannotOccupy run stdout fault
  kek_refused fault why = refused_for program.KekOpen fault why.0 (kek_open why.1)

  pub new_kek_refused : (fault : ProgramFault) (kek : Option (List ℕ)) → Reads (Some run.operation.keks.kek.now) kek
      → (fault ≡ program.NewKekOpen) × CannotRead (place run.operation.keks.new_kek)
      → IsRefused Reads Holds Holds' CannotRead CannotCreate CannotOccupy run stdout fault
  new_kek_refused fault kek reads why = refused_for program.NewKekOpen fault why.0 (new_kek_open kek reads why.1)

  pub input_refused : (fault : ProgramFault) (keks : Keks (Option (List ℕ))) → AreKeks Reads run keks
      → (fault ≡ program.InputOpen) × CannotRead (place run.input)
      → IsRefused Reads Holds Holds' CannotRead CannotCreate CannotOccupy run stdout fault
  input_refused fault keks are why = refused_for program.InputOpen fault why.0 (input_open keks are why.1)

  pub output_refused : (fault : ProgramFault) (keks : Keks (Option (List ℕ))) (input : Option (List ℕ)) → AreOpened Reads run keks input
      → CannotCreateOutput CannotCreate run.output × ((fault ≡ program.Memory) ⊎ (fault ≡ program.OutputOpen))
      → IsRefused Reads Holds Holds' CannotRead CannotCreate CannotOccupy run stdout fault
  output_refused fault keks input opened why = elim why.1 [
    | inl same ↦ refused_for program.Memory fault same (output_memory keks input opened why.0)
    | inr same ↦ refused_for program.OutputOpen fault same (output_open keks input opened why.0)
  ]
