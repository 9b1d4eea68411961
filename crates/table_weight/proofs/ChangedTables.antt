-- What tables weigh once a key has an entry, or a data file, a group or a release comes.
use Rattle.std.proofs.Common.{◌≡◌, ◌∙◌, ◌++◌, refl, sym, ap, ℕ, List, [], ◌∷◌, map, arith}
use Rattle.std.specs.Prelude.{sum_by}
use Rattle.std.proofs.lemmas.Grind.{flat_map-append}
use Rattle.std.proofs.lemmas.List.{map-append}
use Rattle.std.proofs.lemmas.List.Sums.{sum_by-append}
use Rattle.small_types.specs.declared.room.Room.{Room}
use Rattle.small_types.specs.declared.target.Target.{Target}
use Rattle.manifests.specs.declared.facts.Deployment.{Deployment}
use Rattle.manifests.specs.declared.facts.FileEntry.{FileEntry}
use Rattle.machine.specs.declared.app.AppState.{AppState}
use Rattle.machine.specs.BareViews.{new_bare}
use Rattle.machine.specs.Blocks.{distinct, standing_files}
use Rattle.machine.specs.Entries.{with_entry}
use Rattle.machine.specs.Installed.{installed_app}
use Rattle.machine.specs.InstallRow.{with_provider}
use Rattle.machine.specs.Shape.{BareView}
use Rattle.machine.specs.Views.{standing_entries}
use Rattle.machine.specs.Weight.{app_weight, content_weight, data_weight, group_weight, view_weight, weight_of}
use Rattle.machine.proofs.AppWeights.{alike_sum, same_apps}
use Rattle.store_state.specs.declared.change.Change.TheVariants.{Require, Install, Group, Put}
use Rattle.store_state.specs.declared.view.View.{View}
use Rattle.store_state.specs.Change.{effect}
use Rattle.store_state.specs.Tables.{Tables, bare_local, bare_row, table_shape}
use Rattle.table_weight.specs.Laws.{WeighAsInstalled, WeighWithData, WeighWithGroup, WeighWithKey, WeighWithRelease}
use Rattle.table_weight.proofs.AsRows.{shown_weight}
use Rattle.table_weight.proofs.BareRows.{bare_grown, bare_put}
use Rattle.table_weight.proofs.KeptTables.{kept_tables}

pub weigh_with_key : WeighWithKey
weigh_with_key tables key version are fits =
    let change = Require key version in
    shown_weight (effect change tables) (kept_tables tables change are fits)

pub weigh_with_data : WeighWithData
weigh_with_data tables number file are fits =
    let change = Put number file in
    shown_weight (effect change tables) (kept_tables tables change are fits)
    ∙ ap (λ (views : List BareView). weight_of views tables.apps)
    (bare_put number file tables.views)

pub weigh_with_group : WeighWithGroup
weigh_with_group tables number group contents are fits =
    let change = Group number group contents in
    shown_weight (effect change tables) (kept_tables tables change are fits)
    ∙ ap (λ (views : List BareView). weight_of views tables.apps)
    (bare_grown number group tables.views)

-- ---- a release

same_provider : (number : ℕ) (d : Deployment) (provider : Target) (now : ℕ) (app : AppState)
    → app_weight (installed_app number d provider now app) ≡ app_weight (with_provider provider app)
unfolding app_weight
same_provider number d provider now app = refl

pub weigh_with_release : WeighWithRelease
weigh_with_release tables view contents provider now are fits =
    let change = Install view contents provider now in
    let key = view.deployment.identity.key in
    let rows = map bare_row tables.views ++ bare_row view ∷ [] in
    let made = installed_app view.number view.deployment provider now in
    shown_weight (effect change tables) (kept_tables tables change are fits)
    ∙ ap (λ (views : List BareView). weight_of views (with_entry key made tables.apps))
    (map-append bare_row tables.views (view ∷ []))
    ∙ same_apps rows (with_entry key made tables.apps)
    (with_entry key (with_provider provider) tables.apps)
    (alike_sum key made (with_provider provider)
    (same_provider view.number view.deployment provider now) tables.apps)

-- the view of a release and its row, where their data files weigh the same
module _ (room : Room) (tables : Tables) (view : View) (none : view.groups ≡ [])
    (same : sum_by data_weight (map bare_local view.locals)
    ≡ sum_by data_weight
    (new_bare view.base view.deployment view.application (table_shape room tables)).data_files)
  where
    abbrev new : BareView
    new = new_bare view.base view.deployment view.application (table_shape room tables)

    abbrev standing : BareView → List FileEntry
    standing v = standing_entries v.groups v.application

    one_weight : view_weight (bare_row view) ≡ view_weight new
    unfolding view_weight
    one_weight = omega (arith, same, ap (λ (gs : List (List ℕ)). sum_by group_weight gs) none)

    module _ (rows : List BareView) where
      one_standing : standing_files (rows ++ bare_row view ∷ []) ≡ standing_files (rows ++ new ∷ [])
      one_standing =
          flat_map-append standing rows (bare_row view ∷ [])
          ∙ ap (λ (gs : List (List ℕ)).
          standing_files rows ++ (standing_entries gs view.application ++ [])) none
          ∙ sym (flat_map-append standing rows (new ∷ []))

      new_weight : (apps : List AppState)
          → weight_of (rows ++ bare_row view ∷ []) apps ≡ weight_of (rows ++ new ∷ []) apps
      unfolding weight_of
      new_weight apps =
          omega (
            arith,
            ap (λ (es : List FileEntry). sum_by content_weight (distinct es)) one_standing,
            one_weight,
            sum_by-append view_weight rows (bare_row view ∷ []),
            sum_by-append view_weight rows (new ∷ []),
          )

pub weigh_as_installed : WeighAsInstalled
weigh_as_installed room tables view contents provider now are fits same =
    weigh_with_release tables view contents provider now are fits
    ∙ new_weight room tables view fits.groups same (map bare_row tables.views)
    (with_entry view.deployment.identity.key (with_provider provider) tables.apps)
