use Rattle.std.proofs.Common.{rules}
use Rattle.std.specs.Ordering.{is_lt}
use Rattle.std.proofs.lemmas.Fn.{always_returns_same}
use Rattle.std.proofs.lemmas.List.Sorted.{ranks_by}
use Rattle.identity.specs.Printed.{text_cmp}
use Rattle.machine.proofs.EntryOrder.{order}
use Rattle.data_migration.specs.declared.plan.LocalPlan.{LocalPlan}
use Rattle.data_migration.specs.Plans.{plan_name}
use Rattle.data_migration.proofs.plan.sort_plans.Goals as goal

pub returns-clause-sorted : goal.returns-clause-sorted
returns-clause-sorted c =
    c.sort_unstable_by.ensures.sorted
    (λ (p q : LocalPlan). is_lt (text_cmp (plan_name p) (plan_name q)))
    (ranks_by order plan_name)
    (always_returns_same _ _ _ (λ a r f called. search rules))
