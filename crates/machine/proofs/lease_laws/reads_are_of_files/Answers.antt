use Rattle.machine.proofs.LeaseSteps.{read_is, reads_agree}
use Rattle.machine.proofs.lease_laws.reads_are_of_files.Goals as goal

pub returns-clause-files : goal.returns-clause-files
returns-clause-files c = read_is

pub returns-clause-agree : goal.returns-clause-agree
returns-clause-agree c = reads_agree
