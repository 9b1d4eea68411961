use Rattle.manifest_tree.proofs.Refused.{one_refusal_lem, spelled_unrefused}
use Rattle.manifest_tree.proofs.laws.one_refusal.Goals as goal

pub returns-clause-one : goal.returns-clause-one
returns-clause-one c = one_refusal_lem

pub returns-clause-none : goal.returns-clause-none
returns-clause-none c = spelled_unrefused
