use Rattle.machine.proofs.ShownApps.{show_granted, show_is}
use Rattle.machine.proofs.life_laws.shows_are_of_entries.Goals as goal

pub returns-clause-row : goal.returns-clause-row
returns-clause-row c = show_is

pub returns-clause-granted : goal.returns-clause-granted
returns-clause-granted c = show_granted
