-- A new buffer has the bytes that its reader has.
use Rattle.std.proofs.Common.{◌≡◌, ℕ, List, [], Option, Some, None, Result, Ok, Err, IfOk, refl, subst}
use Rattle.std.specs.Io.KnownBytes.{prepend_known}
use Rattle.std.specs.Io.Buffered.{reader_buffer, reader_capacity, reader_inner, reader_remaining}
use Rattle.std.specs.declared.io.buffered.BufReader.{BufReader}
use Rattle.key_lines.specs.declared.fault.RefusedLine.{RefusedLine}
use Rattle.key_lines.specs.declared.fault.RunFault.{RunFault}
use Rattle.key_lines.specs.declared.run.RunOptions.{RunOptions}
use Rattle.key_lines.specs.declared.summary.RunSummary.{RunSummary}
use Rattle.key_wrap_core.specs.declared.faults.Refusal.{Refusal}
use Rattle.keywrap_cli.specs.Operation.{AnswersAllLines, EndsWell, RunsOperationLines}
use Rattle.keywrap_cli.specs.declared.kek_file.Keks.{Keks}
use Rattle.keywrap_cli.specs.declared.outcome.JobFault.{JobFault}
use Rattle.keywrap_cli.specs.declared.what.How.TheVariants.{Lines}
use Rattle.keywrap_cli.specs.declared.what.What.{What}
use Rattle.keywrap.specs.Session.{AnswersRun, RunsOnLines}

prepend_known-nil : (known : Option (List ℕ)) → prepend_known [] known ≡ known
prepend_known-nil None = refl
prepend_known-nil (Some bytes) = refl

pub remaining_of_new : {T A : Type 0} (remaining : T → Option (List ℕ)) (inner : T) (reader : BufReader T A)
    → reader_inner reader ≡ inner → reader_buffer reader ≡ [] → reader_capacity reader ≡ 65536
    → reader_remaining remaining reader ≡ remaining inner
remaining_of_new remaining inner reader same empty capacity = rw (capacity, empty, same) (prepend_known-nil (remaining inner))

-- what an operation on lines does with a buffer, it does with the reader below it
pub runs_from : (what : What) (options : RunOptions) (keks keks' : Keks (Option (List ℕ))) (known input input' out out' : Option (List ℕ))
    (log log' : Option (List (RefusedLine Refusal))) (result : Result (Result (RunSummary Refusal) (RunFault Refusal)) JobFault)
    → input ≡ known → RunsOperationLines what options keks keks' input input' out out' log log' result
    → RunsOnLines what options keks known out out' result
runs_from what options keks keks' known input input' out out' log log' result same runs = record {
  keks' = keks';
  input' = input';
  log = log;
  log' = log';
  runs = subst (λ it. RunsOperationLines what options keks keks' it input' out out' log log' result) same runs;
}

pub answers_from : (what : What) (options : RunOptions) (keks keks' : Keks (Option (List ℕ))) (known input out out' : Option (List ℕ))
    (run : Result (RunSummary Refusal) (RunFault Refusal)) → input ≡ known
    → IfOk run (λ summary. EndsWell what summary → AnswersAllLines what options.notation keks keks' input out out')
    → IfOk run (λ summary. EndsWell what summary → AnswersRun what (Lines options) keks known out out')
answers_from what options keks keks' known input out out' (Ok summary) same answers =
    λ well. (keks', subst (λ it. AnswersAllLines what options.notation keks keks' it out out') same (answers well))
answers_from what options keks keks' known input out out' (Err fault) same answers = tt
