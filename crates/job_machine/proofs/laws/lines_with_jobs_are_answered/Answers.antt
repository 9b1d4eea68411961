use Rattle.job_machine.proofs.JobAnswers.{job_answered}
use Rattle.job_machine.proofs.LinesBeside.{answered_beside}
use Rattle.job_machine.proofs.laws.lines_with_jobs_are_answered.Goals as goal

pub returns-clause-jobs : goal.returns-clause-jobs
returns-clause-jobs c = job_answered

pub returns-clause-others : goal.returns-clause-others
returns-clause-others c =
    λ now heard old command sound may. answered_beside now heard old sound command may
