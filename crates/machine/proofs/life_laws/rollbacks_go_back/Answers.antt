use Rattle.machine.proofs.RolledBack.{excluded_not_due, rollback_granted, rollback_is, rollback_single}
use Rattle.machine.proofs.life_laws.rollbacks_go_back.Goals as goal

pub returns-clause-back : goal.returns-clause-back
returns-clause-back c = rollback_is

pub returns-clause-granted : goal.returns-clause-granted
returns-clause-granted c = rollback_granted

pub returns-clause-single : goal.returns-clause-single
returns-clause-single c = rollback_single

pub returns-clause-excluded : goal.returns-clause-excluded
returns-clause-excluded c = excluded_not_due
