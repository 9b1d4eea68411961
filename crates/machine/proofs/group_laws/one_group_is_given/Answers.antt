use Rattle.machine.proofs.GroupStands.{group_answered, group_one}
use Rattle.machine.proofs.Woven.{one_order}
use Rattle.machine.proofs.group_laws.one_group_is_given.Goals as goal

pub returns-clause-reply : goal.returns-clause-reply
returns-clause-reply c = group_one

pub returns-clause-order : goal.returns-clause-order
returns-clause-order c = one_order

pub returns-clause-stands : goal.returns-clause-stands
returns-clause-stands c = group_answered
