use Rattle.http_plain.proofs.Determined.{one_demand}
use Rattle.http_plain.proofs.laws.one_demand.Goals as goal

pub returns : goal.returns
returns c = one_demand
