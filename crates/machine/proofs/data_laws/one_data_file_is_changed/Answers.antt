use Rattle.machine.proofs.DataSteps.{put_is_there, removed_is_gone}
use Rattle.machine.proofs.data_laws.one_data_file_is_changed.Goals as goal

pub returns-clause-put : goal.returns-clause-put
returns-clause-put c = put_is_there

pub returns-clause-removed : goal.returns-clause-removed
returns-clause-removed c = removed_is_gone
