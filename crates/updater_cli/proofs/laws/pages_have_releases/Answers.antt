use Rattle.updater_cli.proofs.Releases.{pages_have_releases}
use Rattle.updater_cli.proofs.laws.pages_have_releases.Goals as goal

pub returns : goal.returns
returns c = pages_have_releases
