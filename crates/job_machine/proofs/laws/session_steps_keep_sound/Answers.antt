use Rattle.job_machine.proofs.JobSteps.{keep_addresses}
use Rattle.job_machine.proofs.SoundSteps.{begins_sound, run_sound, step_sound}
use Rattle.job_machine.proofs.laws.session_steps_keep_sound.Goals as goal

pub returns-clause-begun : goal.returns-clause-begun
returns-clause-begun c = begins_sound

pub returns-clause-steps : goal.returns-clause-steps
returns-clause-steps c = step_sound

pub returns-clause-runs : goal.returns-clause-runs
returns-clause-runs c = run_sound

pub returns-clause-addresses : goal.returns-clause-addresses
returns-clause-addresses c = keep_addresses
