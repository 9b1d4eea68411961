use Rattle.install_plan.proofs.NewData.{AreMadeTo}
use Rattle.install_plan.proofs.new_locals.new_locals.Given as goal

abbrev pub invariant-loop-plan : goal.invariant-loop-plan
invariant-loop-plan l = AreMadeTo l.old l.fn.fetched.items l.copies l.plans l.locals.items l.left.items l.next l.plan-index
