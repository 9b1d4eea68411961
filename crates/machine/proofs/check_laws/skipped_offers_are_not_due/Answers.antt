use Rattle.machine.proofs.DueChecks.{skipped_not_due}
use Rattle.machine.proofs.check_laws.skipped_offers_are_not_due.Goals as goal

pub returns : goal.returns
returns c = skipped_not_due
