use Rattle.machine.proofs.WantedFiles.{are_wanted}
use Rattle.machine.proofs.install_laws.wanted_files_suffice.Goals as goal

pub returns : goal.returns
returns c = are_wanted
