use Rattle.machine.proofs.InstallSteps.{left_sound}
use Rattle.machine.proofs.install_laws.installs_keep_sound.Goals as goal

pub returns : goal.returns
returns c = λ url heard now old reply new is. left_sound is
