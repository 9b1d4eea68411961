use Rattle.machine.proofs.KeptSteps.{run_sound, step_sound}
use Rattle.machine.proofs.laws.steps_keep_sound.Goals as goal

pub returns-clause-steps : goal.returns-clause-steps
returns-clause-steps c = step_sound

pub returns-clause-runs : goal.returns-clause-runs
returns-clause-runs c = run_sound
