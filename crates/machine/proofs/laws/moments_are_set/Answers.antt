use Rattle.machine.proofs.SetMoments.{at_sets, moment_few, others_leave}
use Rattle.machine.proofs.laws.moments_are_set.Goals as goal

pub returns-clause-set : goal.returns-clause-set
returns-clause-set c = at_sets

pub returns-clause-left : goal.returns-clause-left
returns-clause-left c = others_leave

pub returns-clause-few : goal.returns-clause-few
returns-clause-few c = moment_few
