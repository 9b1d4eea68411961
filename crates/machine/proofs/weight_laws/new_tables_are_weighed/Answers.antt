use Rattle.machine.proofs.NewWeights.{groups_weigh, installs_weigh, puts_weigh, requires_weigh}
use Rattle.machine.proofs.weight_laws.new_tables_are_weighed.Goals as goal

pub returns-clause-require : goal.returns-clause-require
returns-clause-require c = requires_weigh

pub returns-clause-put : goal.returns-clause-put
returns-clause-put c = puts_weigh

pub returns-clause-group : goal.returns-clause-group
returns-clause-group c = groups_weigh

pub returns-clause-install : goal.returns-clause-install
returns-clause-install c = installs_weigh
