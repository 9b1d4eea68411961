use Rattle.machine.proofs.LeaseSteps.{lease_is_sound}
use Rattle.machine.proofs.lease_laws.leased_views_are_sound.Goals as goal

pub returns : goal.returns
returns c = lease_is_sound
