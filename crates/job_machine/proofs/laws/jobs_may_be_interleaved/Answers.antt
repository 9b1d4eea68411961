use Rattle.job_machine.proofs.Example.{interleaved}
use Rattle.job_machine.proofs.laws.jobs_may_be_interleaved.Goals as goal

pub returns : goal.returns
returns c = interleaved
