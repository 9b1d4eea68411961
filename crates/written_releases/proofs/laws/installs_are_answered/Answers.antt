use Rattle.written_releases.proofs.AnsweredInstall.{install_answered}
use Rattle.written_releases.proofs.laws.installs_are_answered.Goals as goal

pub returns : goal.returns
returns c = λ now url old r files originals ordered is may fetched. install_answered now url old r files originals ordered is may fetched
