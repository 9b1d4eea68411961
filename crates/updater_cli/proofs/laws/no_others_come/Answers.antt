use Rattle.updater_cli.proofs.NoOthers.{no_others_come}
use Rattle.updater_cli.proofs.laws.no_others_come.Goals as goal

pub returns : goal.returns
returns g c = no_others_come (g.L.Links.links c.args.links.now)
