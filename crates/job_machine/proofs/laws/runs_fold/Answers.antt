use Rattle.job_machine.proofs.Folds.{folds, folds_alone}
use Rattle.job_machine.proofs.laws.runs_fold.Goals as goal

pub returns-clause-effects : goal.returns-clause-effects
returns-clause-effects c = folds

pub returns-clause-steps : goal.returns-clause-steps
returns-clause-steps c = folds_alone
