use Rattle.data_migration.proofs.TablePlans.{planned_is}
use Rattle.data_migration.proofs.migration_plans.plans_of.Goals as goal

pub returns : goal.returns
returns c =
    planned_is c.args.old.now c.args.old_files.now c.args.new_files.now c.in_ok-before.before
    c.in_ok-after.after c.in_ok-before.ensures c.in_ok-after.ensures c.in_ok-kept.kept
    c.in_ok-kept.ensures c.in_ok-plans.plans.items c.add_fresh.new.plans.items
    c.in_ok-plans.ensures c.in_ok-add_fresh.ensures
