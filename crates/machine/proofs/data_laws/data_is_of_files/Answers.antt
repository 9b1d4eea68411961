use Rattle.machine.proofs.DataSteps.{data_is}
use Rattle.machine.proofs.data_laws.data_is_of_files.Goals as goal

pub returns : goal.returns
returns c = data_is
