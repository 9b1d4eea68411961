use Rattle.machine.proofs.InstallApps.{kept_minimum, reached_minimum}
use Rattle.machine.proofs.install_laws.installs_keep_minimums.Goals as goal

pub returns-clause-keep : goal.returns-clause-keep
returns-clause-keep c = λ url heard now old reply new key minimum is. kept_minimum is key minimum

pub returns-clause-reach : goal.returns-clause-reach
returns-clause-reach c = λ url heard now old reply new is. reached_minimum is
