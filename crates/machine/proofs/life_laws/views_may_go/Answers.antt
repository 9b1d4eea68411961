use Rattle.machine.proofs.LeftView.{may_go}
use Rattle.machine.proofs.life_laws.views_may_go.Goals as goal

pub returns : goal.returns
returns c = may_go
