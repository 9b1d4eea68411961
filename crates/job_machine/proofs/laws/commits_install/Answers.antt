use Rattle.job_machine.proofs.CommitInstalls.{committed, committed_files}
use Rattle.job_machine.proofs.laws.commits_install.Goals as goal

pub returns-clause-install : goal.returns-clause-install
returns-clause-install c = committed

pub returns-clause-files : goal.returns-clause-files
returns-clause-files c = committed_files
