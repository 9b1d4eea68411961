use Rattle.machine.proofs.KeptSteps.{step_valid}
use Rattle.machine.proofs.laws.steps_keep_valid.Goals as goal

pub returns : goal.returns
returns c = step_valid
