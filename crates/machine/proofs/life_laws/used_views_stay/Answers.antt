use Rattle.machine.proofs.CleanedViews.{clean_granted, clean_is, removable_unused}
use Rattle.machine.proofs.life_laws.used_views_stay.Goals as goal

pub returns-clause-kept : goal.returns-clause-kept
returns-clause-kept c = clean_is

pub returns-clause-granted : goal.returns-clause-granted
returns-clause-granted c = clean_granted

pub returns-clause-removable : goal.returns-clause-removable
returns-clause-removable c = removable_unused
