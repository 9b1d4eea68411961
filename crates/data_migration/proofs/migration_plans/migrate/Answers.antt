use Rattle.data_migration.proofs.Apart.{in_order}
use Rattle.data_migration.proofs.TablePlans.{sorted_plans}
use Rattle.data_migration.proofs.MadeFiles.{is_migration}
use Rattle.data_migration.proofs.PlanNames.{names, sources}
use Rattle.data_migration.proofs.migration_plans.migrate.Goals as goal

pub returns-clause-migrated : goal.returns-clause-migrated
returns-clause-migrated c =
    rw c.from_vec.ensures
    (is_migration c.args.old.now c.args.old_files.now c.args.new_files.now
    c.sort_plans.new.plans.items
    (sorted_plans c.args.old.now c.as_slice.result.now c.args.old_files.now
    c.as_slice-2.result.now c.args.new_files.now c.as_slice-3.result.now
    c.in_ok-plans.plans.items c.sort_plans.new.plans.items c.as_slice.ensures
    c.as_slice-2.ensures c.as_slice-3.ensures c.in_ok-plans.ensures c.sort_plans.ensures.same)
    c.sort_plans.ensures.sorted)

pub returns-clause-names : goal.returns-clause-names
returns-clause-names c =
    rw c.from_vec.ensures
    (names c.args.old.now c.args.old_files.now c.args.new_files.now
    c.sort_plans.new.plans.items
    (sorted_plans c.args.old.now c.as_slice.result.now c.args.old_files.now
    c.as_slice-2.result.now c.args.new_files.now c.as_slice-3.result.now
    c.in_ok-plans.plans.items c.sort_plans.new.plans.items c.as_slice.ensures
    c.as_slice-2.ensures c.as_slice-3.ensures c.in_ok-plans.ensures c.sort_plans.ensures.same))

pub returns-clause-once : goal.returns-clause-once
returns-clause-once c = λ apart.
    rw c.from_vec.ensures
    (in_order c.args.old.now c.args.old_files.now c.args.new_files.now apart
    c.sort_plans.new.plans.items
    (sorted_plans c.args.old.now c.as_slice.result.now c.args.old_files.now
    c.as_slice-2.result.now c.args.new_files.now c.as_slice-3.result.now
    c.in_ok-plans.plans.items c.sort_plans.new.plans.items c.as_slice.ensures
    c.as_slice-2.ensures c.as_slice-3.ensures c.in_ok-plans.ensures c.sort_plans.ensures.same)
    c.sort_plans.ensures.sorted)

pub returns-clause-sources : goal.returns-clause-sources
returns-clause-sources c =
    rw c.from_vec.ensures
    (sources c.args.old.now c.args.old_files.now c.args.new_files.now
    c.sort_plans.new.plans.items
    (sorted_plans c.args.old.now c.as_slice.result.now c.args.old_files.now
    c.as_slice-2.result.now c.args.new_files.now c.as_slice-3.result.now
    c.in_ok-plans.plans.items c.sort_plans.new.plans.items c.as_slice.ensures
    c.as_slice-2.ensures c.as_slice-3.ensures c.in_ok-plans.ensures c.sort_plans.ensures.same))

pub returns-clause-planned : goal.returns-clause-planned
returns-clause-planned c =
    rw c.from_vec.ensures
    (sorted_plans c.args.old.now c.as_slice.result.now c.args.old_files.now
    c.as_slice-2.result.now c.args.new_files.now c.as_slice-3.result.now
    c.in_ok-plans.plans.items c.sort_plans.new.plans.items c.as_slice.ensures
    c.as_slice-2.ensures c.as_slice-3.ensures c.in_ok-plans.ensures c.sort_plans.ensures.same)
