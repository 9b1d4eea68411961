use Rattle.audit_list.proofs.OneLine.{one_refusal}
use Rattle.audit_list.proofs.laws.bytes_are_refused_at_one_line.Goals as goal

pub returns : goal.returns
returns c = one_refusal
