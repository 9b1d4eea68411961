use Rattle.updater_cli.proofs.Premises.{one_site_is_given}
use Rattle.updater_cli.proofs.laws.one_site_is_given.Goals as goal

pub returns : goal.returns
returns g c = one_site_is_given (g.L.Links.links c.args.links.now)
