use Rattle.machine.proofs.EntryOrder.{order-with_entry}
use Rattle.machine.proofs.laws.entries_stay_in_order.Goals as goal

pub returns : goal.returns
returns c = λ key f apps keeps ordered. order-with_entry key f keeps apps ordered
