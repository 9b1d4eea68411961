use Rattle.http_plain.proofs.Determined.{one_outcome}
use Rattle.http_plain.proofs.laws.one_outcome.Goals as goal

pub returns : goal.returns
returns c = one_outcome
