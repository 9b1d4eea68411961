use Rattle.std.proofs.Common.{◌≡◌, ◌++◌, drop}
use Rattle.std.specs.Prelude.{flat_map}
use Rattle.data_migration.specs.Plans.{fresh_one}
use Rattle.data_migration.specs.Tables.{is_missing}
use Rattle.data_migration.proofs.migration_plans.add_fresh.Given as goal

-- the plans that are there, and those of what is left
abbrev pub invariant-loop-entry : goal.invariant-loop-entry
invariant-loop-entry l =
    l.plans.items ++ flat_map (fresh_one (is_missing l.kept)) (drop l.entry-index l.files)
    ≡ l.initial.plans.items ++ flat_map (fresh_one (is_missing l.kept)) l.files
