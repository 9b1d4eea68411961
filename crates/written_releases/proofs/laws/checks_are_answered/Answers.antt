use Rattle.written_releases.proofs.AnsweredCheck.{check_answered}
use Rattle.written_releases.proofs.laws.checks_are_answered.Goals as goal

pub returns : goal.returns
returns c = λ now old d publisher product have is current. check_answered now old d publisher product have is current
