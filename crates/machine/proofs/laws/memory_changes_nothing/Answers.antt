use Rattle.machine.proofs.Refusals.{memory_unchanged}
use Rattle.machine.proofs.laws.memory_changes_nothing.Goals as goal

pub returns : goal.returns
returns c = memory_unchanged
