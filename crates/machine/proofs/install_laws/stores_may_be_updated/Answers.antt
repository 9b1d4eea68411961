use Rattle.machine.proofs.Update.{update}
use Rattle.machine.proofs.install_laws.stores_may_be_updated.Goals as goal

pub returns : goal.returns
returns c = update
