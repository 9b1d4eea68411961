use Rattle.http_plain.proofs.Determined.{one_answer}
use Rattle.http_plain.proofs.laws.one_answer.Goals as goal

pub returns : goal.returns
returns c = one_answer
