use Rattle.machine.proofs.HeldMinimums.{run_holds}
use Rattle.machine.proofs.laws.minimums_never_fall.Goals as goal

pub returns : goal.returns
returns c = run_holds
