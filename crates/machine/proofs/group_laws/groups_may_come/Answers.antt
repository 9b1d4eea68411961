use Rattle.machine.proofs.Growth.{growth}
use Rattle.machine.proofs.group_laws.groups_may_come.Goals as goal

pub returns : goal.returns
returns c = growth
