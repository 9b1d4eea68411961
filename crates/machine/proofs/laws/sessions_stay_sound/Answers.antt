use Rattle.machine.proofs.Sessions.{begins_sound, step_session}
use Rattle.machine.proofs.laws.sessions_stay_sound.Goals as goal

pub returns-clause-begun : goal.returns-clause-begun
returns-clause-begun c = begins_sound

pub returns-clause-steps : goal.returns-clause-steps
returns-clause-steps c = step_session
