use Rattle.updater_cli.proofs.Walks.{walks_tell}
use Rattle.updater_cli.proofs.laws.walks_tell.Goals as goal

pub returns : goal.returns
returns g c = walks_tell g.L.Links (g.L.Links.links c.args.first.now) c.args.links.now
