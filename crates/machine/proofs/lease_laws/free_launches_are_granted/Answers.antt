use Rattle.machine.proofs.LeaseSteps.{launch_granted}
use Rattle.machine.proofs.lease_laws.free_launches_are_granted.Goals as goal

pub returns : goal.returns
returns c = launch_granted
