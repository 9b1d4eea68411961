use Rattle.machine.proofs.LeaseSteps.{launch_is}
use Rattle.machine.proofs.lease_laws.launches_are_sound.Goals as goal

pub returns : goal.returns
returns c = launch_is
