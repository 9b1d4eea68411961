use Rattle.machine.proofs.EntryOrder.{entry_of-other, entry_of-with_entry}
use Rattle.machine.proofs.laws.one_entry_is_changed.Goals as goal

pub returns-clause-made : goal.returns-clause-made
returns-clause-made c = λ key f apps keeps. entry_of-with_entry key f keeps apps

pub returns-clause-others : goal.returns-clause-others
returns-clause-others c = λ key other f apps keeps apart. entry_of-other key f keeps other apart apps
