use Rattle.publish_plan.proofs.PlanFacts.{plan_facts}
use Rattle.publish_plan.proofs.laws.plans_have_facts.Goals as goal

pub returns : goal.returns
returns c = λ o names plan early is. plan_facts o names early plan is
