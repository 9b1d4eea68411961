use Rattle.std.proofs.Common.{◌≡◌, ◌||◌, ℕ, List, drop}
use Rattle.std.specs.List.{list_any}
use Rattle.store_state.specs.declared.view.LocalFile.{LocalFile}
use Rattle.data_migration.specs.Plans.{is_kept}
use Rattle.data_migration.specs.Tables.{has_name, stays_by}
use Rattle.data_migration.proofs.migration_plans.kept_names.Given as goal

-- the names that are there, and those of what is left
abbrev pub invariant-loop-file : goal.invariant-loop-file
invariant-loop-file l = (name : List ℕ) → (has_name l.kept name
    || list_any (λ (file : LocalFile). is_kept (stays_by l.before l.after) name file.name)
    (drop l.file-index l.old))
    ≡ list_any (λ (file : LocalFile). is_kept (stays_by l.before l.after) name file.name) l.old
