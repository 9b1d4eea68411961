use Rattle.machine.proofs.LeaseSteps.{launch_reaches}
use Rattle.machine.proofs.lease_laws.launches_reach_minimums.Goals as goal

pub returns : goal.returns
returns c = launch_reaches
