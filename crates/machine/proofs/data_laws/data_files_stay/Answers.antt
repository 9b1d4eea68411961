use Rattle.machine.proofs.DataSteps.{data_stays, kept_data_stays}
use Rattle.machine.proofs.data_laws.data_files_stay.Goals as goal

pub returns-clause-all : goal.returns-clause-all
returns-clause-all c = data_stays

pub returns-clause-kept : goal.returns-clause-kept
returns-clause-kept c = kept_data_stays
