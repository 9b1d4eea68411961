use Rattle.job_machine.proofs.JobSteps.{keep_release}
use Rattle.job_machine.proofs.laws.jobs_keep_their_release.Goals as goal

pub returns : goal.returns
returns c = keep_release
