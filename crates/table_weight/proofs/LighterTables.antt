-- Tables weigh no more after a change by which nothing comes that weighs.
use Rattle.std.proofs.Common.{◌≡◌, ◌∙◌, ◌≤◌, refl, sym, ap, ℕ, Bool, true, false, cond, eqb, bytes_eq, not, List, [], ◌∷◌, map, IsSome, Option, Some, None, arith}
use Rattle.std.specs.Prelude.{slice_get, sum_by}
use Rattle.std.specs.Option.{option_map_or}
use Rattle.std.proofs.lemmas.Cmp.{tied_itself}
use Rattle.std.proofs.lemmas.List.Sums.{sum_by-cons}
use Rattle.identity.specs.declared.key.Key.{Key}
use Rattle.identity.specs.declared.version.Version.{Version}
use Rattle.identity.specs.Key.{key_text}
use Rattle.machine.specs.declared.app.AppState.{AppState}
use Rattle.machine.specs.Blocks.{standing_files}
use Rattle.machine.specs.CheckRow.{heard_app, unheard_app}
use Rattle.machine.specs.Entries.{AreInOrder, entry_of, with_entry}
use Rattle.machine.specs.LaunchRow.{started_app}
use Rattle.machine.specs.RequireRow.{required}
use Rattle.machine.specs.RollbackRow.{rolled_back_app}
use Rattle.machine.specs.SkipRow.{skipped_app}
use Rattle.machine.specs.Weight.{app_weight}
use Rattle.machine.proofs.AppWeights.{KeepsWeight}
use Rattle.machine.proofs.EntryOrder.{order as text_order}
use Rattle.machine.proofs.FirstFound.{value_of}
use Rattle.store_state.specs.declared.change.Change.TheVariants.{Boot, Require, Install, Heard, Unheard, Skip, Rollback, Launch, Finish, Group, Put, Remove, Clean}
use Rattle.store_state.specs.declared.view.LocalFile.{LocalFile}
use Rattle.store_state.specs.declared.view.View.{View}
use Rattle.store_state.specs.Change.{effect, leased}
use Rattle.store_state.specs.Dropped.{dropped, is_among, is_needed, removable_in, without_rows}
use Rattle.store_state.specs.Locals.{without_local}
use Rattle.store_state.specs.Rows.{current_at, current_version, version_at, with_app, with_row}
use Rattle.store_state.specs.Tables.{Tables, bare_row}
use Rattle.store_state.proofs.CheckedApps.{current_entry, own_entry}
use Rattle.store_state.proofs.Placed.{placed_entry}
use Rattle.store_state.proofs.PutItems.{fewer_left}
use Rattle.table_weight.specs.Laws.{LightenOthers}
use Rattle.table_weight.specs.Weight.{block_cost, content_weight, local_weight, tables_weight, view_weight, weight_with}
use Rattle.table_weight.proofs.EntrySums.{kept_sum, required_known}
use Rattle.table_weight.proofs.KeptTables.{at_place}

-- tables of which no part weighs more
lighter : (old new : Tables) → sum_by app_weight new.apps ≤ sum_by app_weight old.apps
    → sum_by (view_weight block_cost) new.views ≤ sum_by (view_weight block_cost) old.views
    → sum_by (content_weight block_cost) new.contents
    ≤ sum_by (content_weight block_cost) old.contents
    → tables_weight new ≤ tables_weight old
unfolding weight_with
lighter old new apps views contents = omega (arith, apps, views, contents)

-- ---- applications

apps_lighter : (old : Tables) (apps : List AppState)
    → sum_by app_weight apps ≡ sum_by app_weight old.apps
    → tables_weight (record old { apps = apps }) ≤ tables_weight old
apps_lighter old apps same =
    lighter old (record old { apps = apps }) (omega (arith, same)) (omega arith) (omega arith)

-- that at a place is changed
module _ (f : AppState → AppState) (keeps : KeepsWeight f) (apps : List AppState)
    (order : AreInOrder apps) (place : ℕ) where
  place_by : (o : Option AppState) → slice_get apps place ≡ o
      → sum_by app_weight (with_app place f apps) ≡ sum_by app_weight apps
  place_by None is =
      ap (λ (xs : List AppState). sum_by app_weight xs) (at_place f apps place None is)
  place_by (Some app) is =
      ap (λ (xs : List AppState). sum_by app_weight xs)
      (sym (placed_entry app.key f apps place app order is
      (tied_itself text_order (key_text app.key))))
      ∙ kept_sum app.key f keeps apps app (own_entry apps place app order is)

  place_sum : sum_by app_weight (with_app place f apps) ≡ sum_by app_weight apps
  place_sum = place_by (slice_get apps place) refl

-- that of a known key is changed
known_sum : (key : Key) (f : AppState → AppState) → KeepsWeight f → (apps : List AppState)
    → IsSome (entry_of key apps)
    → sum_by app_weight (with_entry key f apps) ≡ sum_by app_weight apps
known_sum key f keeps apps some =
    let app = value_of (entry_of key apps) some in kept_sum key f keeps apps app.0 app.1

-- ---- what is noted weighs nothing

heard_keeps : (have version : Version) (minimum : Option Version) (now : ℕ)
    → KeepsWeight (heard_app have version minimum now)
unfolding app_weight
heard_keeps have version minimum now app = refl

unheard_keeps : KeepsWeight unheard_app
unfolding app_weight
unheard_keeps app = refl

skipped_keeps : KeepsWeight skipped_app
unfolding app_weight
skipped_keeps app = refl

back_keeps : (have : Version) → KeepsWeight (rolled_back_app have)
unfolding app_weight
back_keeps have app = refl

started_keeps : KeepsWeight started_app
unfolding app_weight
started_keeps app = refl

-- ---- what may be found or not

module _ (old : Tables) where
  same_lighter : tables_weight old ≤ tables_weight old
  same_lighter = omega arith

  heard_by : (key : Key) (version : Version) (minimum : Option Version) (now : ℕ)
      → IsSome (entry_of key old.apps) → (o : Option Version)
      → tables_weight (option_map_or (λ (have : Version). record old {
        apps = with_entry key (heard_app have version minimum now) old.apps;
      }) o old)
      ≤ tables_weight old
  heard_by key version minimum now some None = same_lighter
  heard_by key version minimum now some (Some have) =
      let made = heard_app have version minimum now in
      apps_lighter old (with_entry key made old.apps)
      (known_sum key made (heard_keeps have version minimum now) old.apps some)

  module _ (order : AreInOrder old.apps) (place : ℕ) where
    back_by : (o : Option Version)
        → tables_weight (option_map_or (λ (have : Version). record old {
          apps = with_app place (rolled_back_app have) old.apps;
        }) o old)
        ≤ tables_weight old
    back_by None = same_lighter
    back_by (Some have) =
        apps_lighter old (with_app place (rolled_back_app have) old.apps)
        (place_sum (rolled_back_app have) (back_keeps have) old.apps order place)

    started_by : (o : Option ℕ)
        → tables_weight (option_map_or (λ (view : ℕ). record (leased view old) {
          apps = with_app place started_app old.apps;
        }) o old)
        ≤ tables_weight old
    started_by None = same_lighter
    started_by (Some view) =
        let same = place_sum started_app started_keeps old.apps order place in
        lighter old (record (leased view old) { apps = with_app place started_app old.apps })
        (omega (arith, same)) (omega arith) (omega arith)

-- ---- fewer data files, and fewer views

module _ (number : ℕ) (name : List ℕ) where
  cut_lighter : (view : View)
      → view_weight block_cost (without_local name view) ≤ view_weight block_cost view
  unfolding view_weight
  cut_lighter view =
      omega (
        arith,
        fewer_left (λ (file : LocalFile). not (bytes_eq file.name name))
            (local_weight block_cost) view.locals,
      )

  cut_by : (b : Bool) (view : View)
      → view_weight block_cost (cond b (without_local name view) view)
      ≤ view_weight block_cost view
  cut_by true view = cut_lighter view
  cut_by false view = omega arith

  views_lighter : (views : List View)
      → sum_by (view_weight block_cost) (with_row number (without_local name) views)
      ≤ sum_by (view_weight block_cost) views
  views_lighter [] = omega arith
  views_lighter (view ∷ views) =
      omega (
        arith,
        cut_by (eqb view.number number) view,
        views_lighter views,
        sum_by-cons (view_weight block_cost)
            (cond (eqb view.number number) (without_local name view) view)
            (with_row number (without_local name) views),
        sum_by-cons (view_weight block_cost) view views,
      )

dropped_lighter : (numbers : List ℕ) (old : Tables)
    → tables_weight (dropped numbers old) ≤ tables_weight old
dropped_lighter numbers old =
    lighter old (dropped numbers old) (omega arith)
    (fewer_left (λ (view : View). not (is_among numbers view)) (view_weight block_cost) old.views)
    (fewer_left (is_needed (standing_files (map bare_row (without_rows numbers old.views))))
    (content_weight block_cost) old.contents)

-- ---- each change

pub lighten_others : LightenOthers
lighten_others tables (Boot boot) are fits brings =
    lighter tables (effect (Boot boot) tables) (omega arith) (omega arith) (omega arith)
lighten_others tables (Require key version) are fits brings =
    let app = value_of (entry_of key tables.apps) brings in
    apps_lighter tables (required key version tables.apps)
    (required_known key version tables.apps app.0 app.1)
lighten_others tables (Install view contents provider now) are fits brings = absurd brings
lighten_others tables (Heard key version minimum now) are fits brings =
    heard_by tables key version minimum now (current_entry key tables fits.installed)
    (current_version key tables)
lighten_others tables (Unheard key) are fits brings =
    apps_lighter tables (with_entry key unheard_app tables.apps)
    (known_sum key unheard_app unheard_keeps tables.apps (current_entry key tables fits))
lighten_others tables (Skip place) are fits brings =
    apps_lighter tables (with_app place skipped_app tables.apps)
    (place_sum skipped_app skipped_keeps tables.apps are.order place)
lighten_others tables (Rollback place) are fits brings =
    back_by tables are.order place (version_at place tables)
lighten_others tables (Launch place) are fits brings =
    started_by tables are.order place (current_at place tables.apps)
lighten_others tables (Finish lease) are fits brings =
    lighter tables (effect (Finish lease) tables) (omega arith) (omega arith) (omega arith)
lighten_others tables (Group number group contents) are fits brings = absurd brings
lighten_others tables (Put number file) are fits brings = absurd brings
lighten_others tables (Remove number name) are fits brings =
    lighter tables (effect (Remove number name) tables) (omega arith)
    (views_lighter number name tables.views) (omega arith)
lighten_others tables Clean are fits brings = dropped_lighter (removable_in tables) tables
