use Rattle.std.proofs.Common.{◌≡◌, ◌++◌, drop}
use Rattle.std.specs.Prelude.{flat_map}
use Rattle.store_state.specs.declared.view.LocalFile.{LocalFile}
use Rattle.data_migration.specs.Plans.{carried}
use Rattle.data_migration.specs.Tables.{stays_by}
use Rattle.data_migration.proofs.migration_plans.carry_all.Given as goal

-- the plans that are there, and those of what is left
abbrev pub invariant-loop-file : goal.invariant-loop-file
invariant-loop-file l =
    l.plans.items
    ++ flat_map (λ (file : LocalFile). carried (stays_by l.before l.after) file.name)
    (drop l.file-index l.old)
    ≡ flat_map (λ (file : LocalFile). carried (stays_by l.before l.after) file.name) l.old
