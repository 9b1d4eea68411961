-- An application once it goes back to its previous view.
use Rattle.std.proofs.Common.{◌≡◌, ◌∙◌, ◌<◌, ◌==◌, refl, sym, ap, subst, length, ℕ, List, All, IsSome, Option, Some}
use Rattle.std.specs.Prelude.{option_and_then, option_map, slice_get}
use Rattle.std.specs.Option.{option_map_or}
use Rattle.std.proofs.lemmas.Option.{same_Some, slice_get_within}
use Rattle.small_types.specs.declared.room.Room.{Room}
use Rattle.identity.specs.declared.key.Key.{Key}
use Rattle.identity.specs.declared.version.Version.{Version}
use Rattle.identity.specs.Version.{IsVersion}
use Rattle.machine.specs.declared.app.AppState.{AppState}
use Rattle.machine.specs.Current.{current_of}
use Rattle.machine.specs.Current.{current_version as shape_version}
use Rattle.machine.specs.Entries.{AreInOrder, entry_of}
use Rattle.machine.specs.RollbackRow.{rolled_back, rolled_back_app}
use Rattle.machine.specs.Store.{Store}
use Rattle.machine.specs.Valid.{IsApp, IsView, Ordered}
use Rattle.machine.proofs.FirstFound.{map_value, some_there, then_value, value_of}
use Rattle.machine.proofs.FirstFound.{find_in as found_in}
use Rattle.machine.proofs.KnownApps.{changed_ordered, installed_still}
use Rattle.machine.proofs.Leased.{current_by, entry_in}
use Rattle.machine.proofs.Members.{In, all_in, in_map}
use Rattle.machine.proofs.RollbackFacts.{back_is_app}
use Rattle.store_state.specs.declared.change.Change.TheVariants.{Rollback}
use Rattle.store_state.specs.declared.view.View.{View}
use Rattle.store_state.specs.Change.{FitsRollback, effect}
use Rattle.store_state.specs.Rows.{current_at, current_row, current_row_at, current_version, previous_row_at, row_at, version_at, with_app}
use Rattle.store_state.specs.Shows.{SameFiles, Shows, shown_view}
use Rattle.store_state.specs.Tables.{Tables, table_shape}
use Rattle.store_state.proofs.CheckedApps.{own_entry, store_with, version_shown}
use Rattle.store_state.proofs.Firsts.{in_place}
use Rattle.store_state.proofs.Images.{same_image}
use Rattle.store_state.proofs.Placed.{placed_entry}
use Rattle.store_state.proofs.ShownTables.{shows_same}

-- the effect, where a version is current for the application at the place
pub back_at : (place : ℕ) (tables : Tables) (have : Version) → version_at place tables ≡ Some have
    → record tables { apps = with_app place (rolled_back_app have) tables.apps }
    ≡ effect (Rollback place) tables
back_at place tables have is =
    ap (λ (version : Option Version). option_map_or (λ (v : Version). record tables {
      apps = with_app place (rolled_back_app v) tables.apps;
    }) version tables) (sym is)

-- as it is read
pub version_read_at : (place : ℕ) (tables : Tables) (view : View)
    → Some view ≡ current_row_at place tables
    → version_at place tables ≡ Some view.deployment.identity.version
version_read_at place tables view is =
    ap (option_map (λ (v : View). v.deployment.identity.version)) (sym is)

-- an application with a current view stands at the place
pub row_within : (place : ℕ) (tables : Tables) → IsSome (current_row_at place tables)
    → place < length tables.apps
row_within place tables some =
    let row = value_of (current_row_at place tables) some in
    let number = then_value (λ (n : ℕ). row_at n tables.views) (current_at place tables.apps) row.0
    row.1 in
    let app = then_value (λ (a : AppState). a.current) (slice_get tables.apps place) number.0
    number.1 in
    slice_get_within tables.apps place app.0 app.1

-- the application of the key stands at the place
version_placed : (key : Key) (place : ℕ) (tables : Tables)
    → slice_get tables.apps place ≡ entry_of key tables.apps
    → version_at place tables ≡ current_version key tables
version_placed key place tables stands =
    ap (λ (entry : Option AppState). option_map (λ (v : View). v.deployment.identity.version)
    (option_and_then (λ (n : ℕ). row_at n tables.views)
    (option_and_then (λ (app : AppState). app.current) entry))) stands

pub shows_rolled_back : (room : Room) (tables : Tables) (key : Key) (place : ℕ) (have : Version)
    (image later : List ℕ) (store : Store) → Shows room tables image store
    → SameFiles room tables image later → AreInOrder tables.apps
    → slice_get tables.apps place ≡ entry_of key tables.apps
    → shape_version key (table_shape room tables) ≡ Some have
    → Shows room (effect (Rollback place) tables) later (rolled_back key have store)
shows_rolled_back room tables key place have image later store first same order stands current =
    let shows = shows_same later same first in
    let version : current_version key tables ≡ Some have =
    version_shown room tables key ∙ current in
    let row = map_value (λ (v : View). v.deployment.identity.version) (current_row key tables) have
    version in
    let number = then_value (λ (n : ℕ). row_at n tables.views) (current_of key tables.apps) row.0
    row.1 in
    let app = current_by key tables.apps number.0 number.1 in
    let at : version_at place tables ≡ Some have =
    version_placed key place tables stands ∙ version in
    let apps = with_app place (rolled_back_app have) tables.apps in
    let made : Shows room (record tables { apps = apps }) later (rolled_back key have store) =
    record {
      is =
          ap (rolled_back key have) shows.is
          ∙ ap (store_with room later tables)
          (placed_entry key (rolled_back_app have) tables.apps place app.0 order (stands ∙ app.1)
          (entry_in key tables.apps app.0 app.1).1);
      held = shows.held;
      whole = shows.whole;
      measured = shows.measured;
    } in
    subst (λ (t : Tables). Shows room t later (rolled_back key have store))
    (back_at place tables have at) made

-- ---- a rollback that fits

module _ (room : Room) (place : ℕ) (old : Tables) (image : List ℕ) (store : Store)
    (shows : Shows room old image store) (was : Ordered store) (fits : FitsRollback old place)
  where
    abbrev row : (view : View) × (current_row_at place old ≡ Some view)
    row = value_of (current_row_at place old) fits.installed

    abbrev number : (n : ℕ) × (current_at place old.apps ≡ Some n) × (row_at n old.views ≡ Some row.0)
    number = then_value (λ (n : ℕ). row_at n old.views) (current_at place old.apps) row.0 row.1

    abbrev app : (a : AppState) × (slice_get old.apps place ≡ Some a) × (a.current ≡ Some number.0)
    app = then_value (λ (a : AppState). a.current) (slice_get old.apps place) number.0 number.1

    abbrev pub back_version : Version
    back_version = row.0.deployment.identity.version

    abbrev pub back_key : Key
    back_key = app.0.key

    apps_are : store.apps ≡ old.apps
    apps_are = ap (λ (s : Store). s.apps) shows.is

    order : AreInOrder old.apps
    order = subst AreInOrder apps_are was.order

    entry : entry_of back_key old.apps ≡ Some app.0
    entry = own_entry old.apps place app.0 order app.1

    -- the view that is previous for it
    earlier : (n : ℕ) × (app.0.previous ≡ Some n)
    earlier =
        let view = value_of (previous_row_at place old) fits.earlier in
        let back = then_value (λ (n : ℕ). row_at n old.views)
        (option_and_then (λ (a : AppState). a.previous) (slice_get old.apps place)) view.0 view.1 in
        let other = then_value (λ (a : AppState). a.previous) (slice_get old.apps place) back.0 back.1
        in (
          back.0,
          ap (λ (a : AppState). a.previous) (same_Some app.0 other.0 (sym app.1 ∙ other.1))
              ∙ other.2,
        )

    is_app : IsApp store.views app.0
    is_app =
        all_in (IsApp store.views) old.apps app.0 (subst (λ (apps : List AppState).
        All (IsApp store.views) apps) apps_are was.apps) (in_place old.apps place app.0 app.1)

    is_version : IsVersion back_version
    is_version =
        let kept = found_in (λ (v : View). v.number == number.0) old.views row.0 number.2 in
        let view = shown_view room image old.contents row.0 in
        (all_in IsView store.views view was.views
        (subst (λ (s : Store). In view s.views) (sym shows.is)
        (in_map (shown_view room image old.contents) old.views row.0 kept.0))).deployment.identity.version

    pub back_shown : Shows room (effect (Rollback place) old) image (rolled_back back_key back_version store)
    back_shown =
        shows_rolled_back room old back_key place back_version image image store shows
        (same_image room old image) order
        (app.1 ∙ sym entry)
        (sym (version_shown room old back_key)
        ∙ sym (version_placed back_key place old (app.1 ∙ sym entry))
        ∙ version_read_at place old row.0 (sym row.1))

    pub back_ordered : Ordered (rolled_back back_key back_version store)
    back_ordered =
        let known = ap (entry_of back_key) apps_are ∙ entry in
        changed_ordered back_key (rolled_back_app back_version) (λ a. refl) store is_app.key
        (some_there (entry_of back_key store.apps) app.0 known)
        (back_is_app store.views back_version is_version)
        (installed_still back_key (rolled_back_app back_version) (λ a. refl) store.apps app.0 known
        (some_there app.0.previous earlier.0 earlier.1) store.views) was
