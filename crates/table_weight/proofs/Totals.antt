-- What the tables weigh after a command, by what their parts weigh.
use Rattle.std.proofs.Common.{◌≡◌, ◌∙◌, ◌+◌, refl, ap, ℕ, Bool, true, false, cond, eqb, min, List, [], ◌∷◌, map, Some, arith}
use Rattle.std.specs.Prelude.{slice_get, sum_by}
use Rattle.std.proofs.lemmas.List.Sums.{sum_by-append, sum_by-cons}
use Rattle.small_types.specs.declared.room.Room.{Room}
use Rattle.small_types.specs.declared.target.Target.{Target}
use Rattle.manifests.specs.declared.facts.Application.{Application}
use Rattle.manifests.specs.declared.facts.Deployment.{Deployment}
use Rattle.manifests.specs.declared.facts.FileEntry.{FileEntry}
use Rattle.machine.specs.declared.app.AppState.{AppState}
use Rattle.machine.specs.declared.weights.TheConstants.{STATE_WEIGHT}
use Rattle.machine.specs.BareViews.{migrated_data, new_bare, with_bare_at, with_bare_data, with_bare_group}
use Rattle.machine.specs.Blocks.{distinct, standing_files}
use Rattle.machine.specs.Current.{bare_data_of, bare_listed_by, current_bare}
use Rattle.machine.specs.Entries.{with_entry}
use Rattle.machine.specs.GroupRow.{weight_grown}
use Rattle.machine.specs.Groups.{group_files}
use Rattle.machine.specs.InstallRow.{weight_installed, with_provider}
use Rattle.machine.specs.PutRow.{weight_put}
use Rattle.machine.specs.Shape.{BareData, BareView}
use Rattle.machine.specs.Views.{standing_entries}
use Rattle.machine.specs.Wanted.{wanted, wanted_beside}
use Rattle.machine.specs.Weight.{app_weight, counted, data_weight, weight_of}
use Rattle.machine.specs.Weight.{content_weight as entry_weight}
use Rattle.machine.specs.Weight.{view_weight as bare_weight}
use Rattle.machine.proofs.ChangedLists.{same_lists}
use Rattle.machine.proofs.Members.{sum_map}
use Rattle.store_state.specs.declared.view.Content.{Content}
use Rattle.store_state.specs.declared.view.View.{View}
use Rattle.store_state.specs.Kept.{AreTables}
use Rattle.store_state.specs.Rows.{row_at}
use Rattle.store_state.specs.Tables.{Tables, bare_row, table_shape}
use Rattle.table_weight.specs.Releases.{program_weight, release_weight, without_group}
use Rattle.table_weight.specs.Weight.{block_cost, content_weight, view_weight}
use Rattle.table_weight.proofs.AsRows.{rows_weigh}
use Rattle.table_weight.proofs.ByKey.{contents_weigh}
use Rattle.table_weight.proofs.GroupFiles.{group_weighs, grown_contents, places_weigh}
use Rattle.table_weight.proofs.ReleaseFiles.{programs_weigh, release_contents}

-- ---- parts that go as far as a number does

pub joined : (a b c x y z all limit : ℕ) → x ≡ min a limit → y ≡ min b limit → z ≡ min c limit
    → all ≡ min (STATE_WEIGHT + x + y + z) limit → all ≡ min (STATE_WEIGHT + a + b + c) limit
joined a b c x y z all limit first second third sum = omega (arith, first, second, third, sum)

pub joined_more : (a b x y all limit : ℕ) → x ≡ min a limit → y ≡ min b limit
    → all ≡ min (x + y) limit → all ≡ min (a + b) limit
joined_more a b x y all limit first second sum = omega (arith, first, second, sum)

-- ---- views of which that of a number is changed

abbrev changed : ℕ → (BareView → BareView) → BareView → BareView
changed number f view = cond (eqb view.number number) (f view) view

changed_sum : (number : ℕ) (f : BareView → BareView) (views : List View)
    → sum_by bare_weight (with_bare_at number f (map bare_row views))
    ≡ sum_by (λ (view : View). bare_weight (changed number f (bare_row view))) views
changed_sum number f views =
    sum_map (changed number f) bare_weight (map bare_row views)
    ∙ sum_map bare_row (λ (view : BareView). bare_weight (changed number f view)) views

standing_by : (number : ℕ) (file : BareData) (view : BareView) (b : Bool)
    → standing_entries (cond b (with_bare_data file view) view).groups
    (cond b (with_bare_data file view) view).application
    ≡ standing_entries view.groups view.application
standing_by number file view true = refl
standing_by number file view false = refl

same_standing : (number : ℕ) (file : BareData) (views : List BareView)
    → standing_files (with_bare_at number (with_bare_data file) views) ≡ standing_files views
same_standing number file views =
    same_lists (changed number (with_bare_data file))
    (λ (view : BareView). standing_entries view.groups view.application)
    (λ view. standing_by number file view (eqb view.number number)) views

-- ---- tables, as their lists are read

module _ (t : Tables) (are : AreTables t) (apps : List AppState) (views : List View)
    (contents : List Content) (same_apps : apps ≡ t.apps) (same_views : views ≡ t.views)
    (same_contents : contents ≡ t.contents) where
  abbrev rows : List BareView
  rows = map bare_row t.views

  contents_are : sum_by (content_weight block_cost) contents
      ≡ sum_by entry_weight (distinct (standing_files rows))
  contents_are =
      ap (λ (cs : List Content). sum_by (content_weight block_cost) cs) same_contents
      ∙ contents_weigh (standing_files rows) t.contents are.contents

  views_are : sum_by (view_weight block_cost) views ≡ sum_by bare_weight rows
  views_are =
      ap (λ (vs : List View). sum_by (view_weight block_cost) vs) same_views ∙ rows_weigh t.views

  apps_are : sum_by app_weight apps ≡ sum_by app_weight t.apps
  apps_are = ap (λ (xs : List AppState). sum_by app_weight xs) same_apps

  -- once applications are others
  pub with_apps : (others : List AppState)
      → STATE_WEIGHT + sum_by app_weight others + sum_by (view_weight block_cost) views
      + sum_by (content_weight block_cost) contents
      ≡ weight_of rows others
  unfolding weight_of
  with_apps others = omega (arith, contents_are, views_are)

  module _ (number : ℕ) where
    -- once a view has a data file
    pub with_data : (room : Room) (file : BareData)
        → STATE_WEIGHT + sum_by app_weight apps
        + sum_by (λ (view : View). bare_weight
        (changed number (with_bare_data file) (bare_row view))) views
        + sum_by (content_weight block_cost) contents
        ≡ weight_put number file (table_shape room t)
    unfolding weight_of
    with_data room file =
        let put = λ (view : View). bare_weight
        (changed number (with_bare_data file) (bare_row view)) in
        omega (
          arith,
          apps_are,
          contents_are,
          ap (λ (vs : List View). sum_by put vs) same_views,
          changed_sum number (with_bare_data file) t.views,
          ap (λ (es : List FileEntry). sum_by entry_weight (distinct es))
              (same_standing number file rows),
        )

    -- once a group stands in it
    pub with_group : (room : Room) (group : List ℕ) (view : View) (files : List FileEntry)
        (places : List ℕ) → row_at number t.views ≡ Some view
        → files ≡ map without_group (group_files group view.application)
        → map (slice_get files) places ≡ map Some (wanted_beside (standing_files rows) files)
        → STATE_WEIGHT + sum_by app_weight apps
        + sum_by (λ (view : View). bare_weight
        (changed number (with_bare_group group) (bare_row view))) views
        + sum_by (content_weight block_cost) contents
        + sum_by (λ (place : ℕ). counted program_weight (slice_get files place)) places
        ≡ weight_grown number group (table_shape room t)
    unfolding weight_of
    with_group room group view files places kept own wanted =
        let grows = λ (view : View). bare_weight
        (changed number (with_bare_group group) (bare_row view)) in
        omega (
          arith,
          apps_are,
          contents_are,
          ap (λ (vs : List View). sum_by grows vs) same_views,
          changed_sum number (with_bare_group group) t.views,
          group_weighs rows group view.application files places own wanted,
          grown_contents number group t.views view are.rising kept,
        )

  -- ---- once a release is installed

  module _ (room : Room) (provider base : Target) (d : Deployment) (a : Application) where
    abbrev new : BareView
    new = new_bare base d a (table_shape room t)

    abbrev moved : List BareData
    moved =
        let old = current_bare d.identity.key (table_shape room t) in
        migrated_data (bare_data_of old) (bare_listed_by old) a.files

    new_weighs : bare_weight new ≡ release_weight d a base + sum_by data_weight moved
    unfolding bare_weight
    new_weighs = omega arith

    pub with_release : (files : List FileEntry) (places : List ℕ) → files ≡ a.files
        → map (slice_get a.files) places ≡ map Some (wanted rows a)
        → STATE_WEIGHT
        + sum_by app_weight (with_entry d.identity.key (with_provider provider) t.apps)
        + sum_by (view_weight block_cost) views + sum_by (content_weight block_cost) contents
        + (release_weight d a base + sum_by data_weight moved
        + sum_by (λ (place : ℕ). counted program_weight (slice_get files place)) places)
        ≡ weight_installed provider base d a (table_shape room t)
    unfolding weight_of
    with_release files places same wanted_are =
        let programs_read = ap (λ (fs : List FileEntry).
        sum_by (λ (place : ℕ). counted program_weight (slice_get fs place)) places) same in
        let programs_are = places_weigh program_weight a.files (wanted rows a) places wanted_are in
        omega (
          arith,
          views_are,
          contents_are,
          programs_read,
          programs_are,
          programs_weigh rows a,
          release_contents rows a new refl refl,
          new_weighs,
          sum_by-append bare_weight rows (new ∷ []),
          sum_by-cons bare_weight new [],
        )
