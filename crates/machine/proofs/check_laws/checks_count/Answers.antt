use Rattle.machine.proofs.DueChecks.{made_counts, one_effect, shows_held}
use Rattle.machine.proofs.check_laws.checks_count.Goals as goal

pub returns-clause-show : goal.returns-clause-show
returns-clause-show c = shows_held

pub returns-clause-one : goal.returns-clause-one
returns-clause-one c = one_effect

pub returns-clause-count : goal.returns-clause-count
returns-clause-count c = made_counts
