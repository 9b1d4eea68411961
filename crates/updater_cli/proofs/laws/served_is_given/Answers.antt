use Rattle.updater_cli.proofs.Premises.{served_is_given}
use Rattle.updater_cli.proofs.laws.served_is_given.Goals as goal

pub returns : goal.returns
returns g c = served_is_given (g.L.Links.links c.args.before.now) (g.L.Links.links c.args.after.now)
