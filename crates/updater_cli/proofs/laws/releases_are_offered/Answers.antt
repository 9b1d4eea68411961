use Rattle.updater_cli.proofs.Releases.{releases_are_offered}
use Rattle.updater_cli.proofs.laws.releases_are_offered.Goals as goal

pub returns : goal.returns
returns c = releases_are_offered
