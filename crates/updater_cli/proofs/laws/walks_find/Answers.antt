use Rattle.updater_cli.proofs.Quiet.{walks_find}
use Rattle.updater_cli.proofs.laws.walks_find.Goals as goal

pub returns : goal.returns
returns g c = walks_find g.L.Links (g.L.Links.links c.args.first.now) c.args.links.now
