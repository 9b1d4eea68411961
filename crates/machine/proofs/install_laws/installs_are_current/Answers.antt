use Rattle.machine.proofs.InstallApps.{is_current}
use Rattle.machine.proofs.install_laws.installs_are_current.Goals as goal

pub returns : goal.returns
returns c = λ url heard now old reply new is. is_current is
