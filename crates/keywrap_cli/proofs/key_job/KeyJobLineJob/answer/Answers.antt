use Rattle.keywrap_cli.proofs.key_job.KeyJobLineJob.answer.Goals as goal

pub returns-in-Convert : goal.returns-in-Convert
returns-in-Convert g c = rw c.in-Convert.is c.convert.ensures

pub returns-in-Ok : goal.returns-in-Ok
returns-in-Ok g c = rw c.in-Check.is (rw c.deref.ensures.value at c.in-Ok.ensures)

pub returns-in-Rewrap : goal.returns-in-Rewrap
returns-in-Rewrap g c = rw c.in-Rewrap.is c.rewrap.ensures
