use Rattle.updater_cli.proofs.Premises.{publishes_write}
use Rattle.updater_cli.proofs.laws.publishes_write.Goals as goal

pub returns : goal.returns
returns c = publishes_write
