use Rattle.machine.proofs.InstallSteps.{left_valid}
use Rattle.machine.proofs.install_laws.installs_keep_valid.Goals as goal

pub returns : goal.returns
returns c = λ url heard now old reply new is. left_valid is
