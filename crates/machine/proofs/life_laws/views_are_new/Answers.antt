use Rattle.machine.proofs.ViewSteps.{run_numbers}
use Rattle.machine.proofs.life_laws.views_are_new.Goals as goal

pub returns : goal.returns
returns c = run_numbers
