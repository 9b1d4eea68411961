use Rattle.machine.proofs.ShownApps.{list_granted, list_is}
use Rattle.machine.proofs.life_laws.lists_show_current.Goals as goal

pub returns-clause-rows : goal.returns-clause-rows
returns-clause-rows c = list_is

pub returns-clause-granted : goal.returns-clause-granted
returns-clause-granted c = list_granted
