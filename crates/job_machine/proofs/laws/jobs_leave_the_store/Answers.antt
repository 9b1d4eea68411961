use Rattle.job_machine.proofs.Unchanged.{store_left}
use Rattle.job_machine.proofs.laws.jobs_leave_the_store.Goals as goal

pub returns : goal.returns
returns c = store_left
