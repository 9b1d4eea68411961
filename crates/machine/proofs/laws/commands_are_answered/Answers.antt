use Rattle.machine.proofs.Answered.{answered, stepped}
use Rattle.machine.proofs.laws.commands_are_answered.Goals as goal

pub returns-clause-commands : goal.returns-clause-commands
returns-clause-commands c = λ now heard old command valid hears none. answered now heard old command valid none

pub returns-clause-events : goal.returns-clause-events
returns-clause-events c = λ now old event valid may none. stepped now old event valid may none
