use Rattle.machine.proofs.MissingFiles.{are_missing}
use Rattle.machine.proofs.group_laws.group_files_suffice.Goals as goal

pub returns : goal.returns
returns c = are_missing
