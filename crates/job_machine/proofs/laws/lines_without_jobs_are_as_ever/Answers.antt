use Rattle.job_machine.proofs.WithoutJobs.{lines_as_ever}
use Rattle.job_machine.proofs.laws.lines_without_jobs_are_as_ever.Goals as goal

pub returns : goal.returns
returns c = lines_as_ever
