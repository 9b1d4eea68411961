-- The tables have room once the change of a plan is made.
use Rattle.std.proofs.Common.{◌∙◌, sym, subst, ℕ, List}
use Rattle.small_types.specs.declared.room.Room.{Room}
use Rattle.manifests.specs.declared.facts.Application.{Application}
use Rattle.manifests.specs.declared.facts.Deployment.{Deployment}
use Rattle.machine.specs.InstallRow.{IsWeightOf, OfRelease, weight_installed}
use Rattle.machine.specs.Migrated.{Migrated}
use Rattle.machine.specs.Shape.{Shape}
use Rattle.machine.specs.Views.{DataFile, ListedFile}
use Rattle.machine.specs.Weight.{IsLight, IsTooHeavy}
use Rattle.machine.proofs.Lightness.{is_light}
use Rattle.store_state.specs.declared.view.Content.{Content}
use Rattle.store_state.specs.declared.view.LocalFile.{LocalFile}
use Rattle.store_state.specs.declared.view.View.{View}
use Rattle.store_state.specs.Change.{Fits, effect}
use Rattle.store_state.specs.Kept.{AreTables}
use Rattle.store_state.specs.Rows.{current_row, row_files}
use Rattle.store_state.specs.Tables.{Tables, table_shape}
use Rattle.data_migration.specs.declared.plan.LocalPlan.{LocalPlan}
use Rattle.data_migration.specs.Migration.{applied, deployed_files}
use Rattle.table_weight.specs.Laws.{MigratedDataWeigh, WeighAsInstalled}
use Rattle.table_weight.specs.Weight.{tables_weight}
use Rattle.install_plan.specs.declared.plan.InstallPlan.{InstallPlan}
use Rattle.install_plan.specs.Carried.{ArePlansFor}
use Rattle.install_plan.specs.Changes.{AreMade, change_of_plan, old_locals, plan_contents, view_of}
use Rattle.install_plan.specs.Plans.{IsPlan}
use Rattle.install_plan.proofs.MadeData.{zero_bare, zero_data, zero_entries, zero_files, zero_made, zero_names, zero_sized}
use Rattle.install_plan.proofs.Outcome.{held_application}
use Rattle.install_plan.proofs.Planned.{apart}
use Rattle.install_plan.proofs.TableRoom.{own_weight}
use Rattle.install_plan.proofs.Told.{release_map}

module _ (room : Room) (tables : Tables) (url : List ℕ) (texts : List (List ℕ)) (plan : InstallPlan)
    (is : IsPlan (table_shape room tables) url texts plan) where
  abbrev shape : Shape
  shape = table_shape room tables

  abbrev installed : ℕ
  installed = weight_installed plan.provider plan.base plan.deployment plan.application shape

  abbrev IsHeavy : Deployment → Application → Type 0
  IsHeavy d a = IsWeightOf url shape d a installed × IsTooHeavy room installed

  heavy_release : IsTooHeavy room installed → OfRelease texts IsHeavy
  heavy_release heavy =
      release_map {Q = IsHeavy} texts (λ d a same.
      subst (λ (x : Deployment). IsHeavy x a) (sym same.0)
      (subst (λ (x : Application). IsHeavy plan.deployment x) (sym same.1) (
        own_weight url shape plan.deployment plan.application plan.url is.read plan.base is.joined
            plan.provider is.provided,
        heavy,
      ))) is.told

  -- no refusal holds, so it has room
  installed_light : IsLight room installed
  installed_light =
      is_light room installed (λ heavy.
      is.release.1.1.1.1.1.1.1.0 installed (heavy_release heavy))

  module _ (plans : List LocalPlan) (locals : List LocalFile) (contents : List Content) (now : ℕ)
      (are : AreTables tables) (known : ArePlansFor tables plan plans)
      (made : AreMade (old_locals tables plan) plan.application.files plans locals)
      (fits : Fits tables (change_of_plan tables plan locals contents now)) where
    abbrev view : View
    view = view_of tables plan locals

    abbrev old : List DataFile
    old = zero_data (old_locals tables plan)

    abbrev originals : List ListedFile
    originals = zero_files (deployed_files plan.application.files)

    -- whatever bytes they have, its data files are those of the new version
    migrated : Migrated old (row_files (current_row plan.deployment.identity.key tables))
        plan.application.files originals (applied old originals plans)
    migrated =
        known.migrated old originals (zero_names (old_locals tables plan))
        (apart plan.deployment.identity.key tables are plan.application
        (held_application room tables url texts plan is))
        (zero_entries (deployed_files plan.application.files))

    pub changed_light : WeighAsInstalled → MigratedDataWeigh
        → IsLight room (tables_weight (effect (change_of_plan tables plan locals contents now) tables))
    changed_light weigh_as_installed data_weigh =
        subst (IsLight room)
        (sym (weigh_as_installed room tables view (plan_contents plan contents) plan.provider now
        are fits
        (data_weigh room tables view old (applied old originals plans) originals are fits.row
        (zero_bare (old_locals tables plan))
        (zero_made (old_locals tables plan) plan.application.files plans ∙ sym made)
        (zero_entries (deployed_files plan.application.files))
        (zero_sized (deployed_files plan.application.files)) migrated)))
        installed_light
