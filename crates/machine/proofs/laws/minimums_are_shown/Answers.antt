use Rattle.machine.proofs.RaisedMinimums.{minimum_shown}
use Rattle.machine.proofs.laws.minimums_are_shown.Goals as goal

pub returns : goal.returns
returns c = minimum_shown
