-- Which data files a new view has, and where they come from.
use Rattle.std.specs.Prelude.{◌≡◌, ℕ, List, All, AllPairs, map, not, Option, if◌then◌else◌, sum_by}
use Rattle.std.specs.List.Sorted.{IsPermutation}
use Rattle.std.specs.declared.cmp.Ordering.TheVariants.{Less}
use Rattle.identity.specs.Printed.{text_cmp}
use Rattle.manifests.specs.declared.facts.FileEntry.{FileEntry}
use Rattle.manifests.specs.Applications.{is_below_pre}
use Rattle.machine.specs.Blocks.{blocks_of}
use Rattle.machine.specs.Migrated.{migrated_names}
use Rattle.store_state.specs.declared.view.LocalFile.{LocalFile}
use Rattle.store_state.specs.declared.view.View.{View}
use Rattle.store_state.specs.Rows.{current_row}
pub use Rattle.store_state.specs.Rows.{row_files, row_locals}
use Rattle.store_state.specs.Tables.{Tables}
use Rattle.data_migration.specs.declared.plan.LocalPlan.{LocalPlan}
use Rattle.data_migration.specs.Migration.{AreApart, HasSource, IsMigration}
use Rattle.data_migration.specs.Plans.{local_names, plan_name, planned}
use Rattle.install_plan.specs.declared.plan.InstallPlan.{InstallPlan}

-- ---- plans

-- the names of the data files rise
abbrev pub Rise : List LocalPlan → Type 0
Rise plans = AllPairs (λ p q. text_cmp (plan_name p) (plan_name q) ≡ Less) plans

-- they are those of the new view's data files
pub record ArePlans (row : Option View) (files : List FileEntry) (plans : List LocalPlan)
    : Type 0 where
  pub migrated : IsMigration (row_locals row) (row_files row) files plans
  pub names : IsPermutation (migrated_names (local_names (row_locals row)) (row_files row) files)
      (map plan_name plans)
  pub once : AreApart (row_locals row) files → Rise plans
  pub sources : All (HasSource (row_locals row) files) plans
  pub planned : IsPermutation (planned (row_locals row) (row_files row) files) plans

-- so are they for a plan, beside the view that was current in the tables
abbrev pub ArePlansFor : Tables → InstallPlan → List LocalPlan → Type 0
ArePlansFor tables plan plans =
    ArePlans (current_row plan.deployment.identity.key tables) plan.application.files plans

-- ---- blocks

-- a data file outside `.pre` is copied
abbrev pub copied_blocks_of : LocalFile → ℕ
copied_blocks_of file = if not (is_below_pre file.name) then blocks_of file.length else 0

abbrev pub copied_in : List LocalFile → ℕ
copied_in files = sum_by copied_blocks_of files

-- its bytes
abbrev pub carried_bytes_of : LocalFile → ℕ
carried_bytes_of file = if not (is_below_pre file.name) then file.length else 0

abbrev pub carried_in : List LocalFile → ℕ
carried_in files = sum_by carried_bytes_of files
