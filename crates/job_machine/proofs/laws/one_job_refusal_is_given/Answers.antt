use Rattle.machine.proofs.FirstRefusal.{one_refuses}
use Rattle.job_machine.specs.Sessions.{job_refusals}
use Rattle.job_machine.proofs.Exactness.{rows_exact}
use Rattle.job_machine.proofs.laws.one_job_refusal_is_given.Goals as goal

pub returns-clause-rows : goal.returns-clause-rows
returns-clause-rows c = rows_exact

pub returns-clause-one : goal.returns-clause-one
returns-clause-one c = λ heard session command. one_refuses (job_refusals heard session command)
