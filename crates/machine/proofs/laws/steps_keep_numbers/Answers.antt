use Rattle.machine.proofs.KeptSteps.{step_room, step_boot}
use Rattle.machine.proofs.laws.steps_keep_numbers.Goals as goal

pub returns-clause-room : goal.returns-clause-room
returns-clause-room c = step_room

pub returns-clause-boot : goal.returns-clause-boot
returns-clause-boot c = step_boot
