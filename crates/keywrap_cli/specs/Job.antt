-- What the calls for one key do, and what a rewrap by `run_rewrap` returns.
use Rattle.std.specs.Prelude.{Result, Ok, Err}
use Rattle.key_wrap_core.specs.Forms.{by_default}
use Rattle.key_wrap_core.specs.Plain.{default_iv}
use Rattle.key_wrap_core.specs.declared.forms.Form.{Form}
use Rattle.keywrap_cli.specs.declared.job.Job.{Job}
use Rattle.keywrap_cli.specs.declared.job.Job.TheVariants as jobs
use Rattle.keywrap_cli.specs.declared.outcome.Done.{Done}
use Rattle.keywrap_cli.specs.declared.outcome.JobFault.{JobFault}
use Rattle.keywrap_cli.specs.declared.outcome.JobFault.TheVariants.{BadLength, KeyNotPlain}
use Rattle.keywrap_cli.specs.declared.what.What.{What}
use Rattle.keywrap_cli.specs.declared.what.Conversion.TheVariants.{Wrap, Unwrap}
use Rattle.keywrap_cli.specs.declared.what.What.TheVariants.{Convert, Check}

-- the job in this form, with the default initial value
abbrev pub what_of : Job → Form → What
what_of jobs.Wrap form = Convert (Wrap (by_default form))
what_of jobs.Unwrap form = Convert (Unwrap (by_default form))
what_of jobs.Check form = Check default_iv

-- the fault, and the result, in which both lengths, of the wrapped key and of its key, have one cause
abbrev pub fault_without_cause : JobFault → JobFault
fault_without_cause KeyNotPlain = BadLength
fault_without_cause fault = fault

abbrev pub without_cause : Result Done JobFault → Result Done JobFault
without_cause (Ok done) = Ok done
without_cause (Err fault) = Err (fault_without_cause fault)
