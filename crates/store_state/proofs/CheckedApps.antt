-- Entries once they are checked or skipped, and what tables show then.
use Rattle.std.proofs.Common.{◌≡◌, ◌∙◌, ◌<◌, refl, sym, ap, subst, ℕ, List, IsSome, Option, Some, None, length, get_or}
use Rattle.std.specs.Prelude.{option_map, slice_get}
use Rattle.std.specs.Option.{option_map_or}
use Rattle.std.proofs.lemmas.Cmp.{tied_itself}
use Rattle.std.proofs.lemmas.Option.{get_or_from_slice_get, slice_get-get_or, slice_get_within}
use Rattle.small_types.specs.declared.room.Room.{Room}
use Rattle.identity.specs.declared.key.Key.{Key}
use Rattle.identity.specs.declared.version.Version.{Version}
use Rattle.identity.specs.Key.{key_text}
use Rattle.machine.specs.declared.app.AppState.{AppState}
use Rattle.machine.specs.CheckRow.{heard_app, unheard_store}
use Rattle.machine.specs.Current.{current_of}
use Rattle.machine.specs.Current.{current_version as shape_version}
use Rattle.machine.specs.Entries.{AreInOrder, KeepsKeys, entry_of, fresh, key_cmp, with_entry}
use Rattle.machine.specs.Shape.{BareView}
use Rattle.machine.specs.SkipRow.{offer_of, skipped, skipped_app}
use Rattle.machine.specs.Store.{Store}
use Rattle.machine.specs.Valid.{IsApp, Ordered}
use Rattle.machine.proofs.FirstFound.{some_there, then_value, value_of}
use Rattle.machine.proofs.EntryOrder.{order as text_order}
use Rattle.machine.proofs.KnownApps.{known_ordered}
use Rattle.machine.proofs.Leased.{entry_in}
use Rattle.machine.proofs.Members.{all_in, contains_in}
use Rattle.machine.proofs.Places.{found}
use Rattle.store_state.specs.declared.change.Change.TheVariants.{Heard, Skip, Unheard}
use Rattle.store_state.specs.declared.note.Note.{Note}
use Rattle.store_state.specs.declared.note.Note.TheVariants as note
use Rattle.store_state.specs.declared.view.View.{View}
use Rattle.store_state.specs.Change.{effect}
use Rattle.store_state.specs.Notes.{noted}
use Rattle.store_state.specs.Rows.{current_at, current_row, current_version, row_at, with_app}
use Rattle.store_state.specs.Shows.{SameFiles, Shows, shown_store}
use Rattle.store_state.specs.Tables.{Tables, bare_row, table_shape}
use Rattle.store_state.proofs.Current.{bare_current}
use Rattle.store_state.proofs.Placed.{placed_entry}
use Rattle.store_state.proofs.ShownTables.{shows_same}

-- ---- notes

-- what is noted leaves the key of an entry
pub noted_keys : (n : Note) → KeepsKeys (noted n)
noted_keys note.Started app = refl
noted_keys (note.Heard current version minimum now) app = refl
noted_keys note.Unheard app = refl
noted_keys note.Skipped app = refl
noted_keys (note.RolledBack current) app = refl

-- the entry of the key is changed at its place
pub place_is : (key : Key) (f : AppState → AppState) (apps : List AppState) (place : ℕ)
    → AreInOrder apps → place < length apps → slice_get apps place ≡ entry_of key apps
    → with_app place f apps ≡ with_entry key f apps
place_is key f apps place order within stands =
    let app = get_or apps place (fresh key) in
    let there : slice_get apps place ≡ Some app = slice_get-get_or apps place (fresh key) within in
    let entry : entry_of key apps ≡ Some app = sym stands ∙ there in
    sym (placed_entry key f apps place app order there (entry_in key apps app entry).1)

-- ---- a current view has an entry

pub current_entry : (key : Key) (tables : Tables) → IsSome (current_row key tables)
    → IsSome (entry_of key tables.apps)
current_entry key tables some =
    let row = value_of (current_row key tables) some in
    let number = then_value (λ (n : ℕ). row_at n tables.views) (current_of key tables.apps) row.0
    row.1 in
    let app = then_value (λ (a : AppState). a.current) (entry_of key tables.apps) number.0
    number.1 in
    some_there (entry_of key tables.apps) app.0 app.1

-- a place with a current view is one
pub place_within : (place : ℕ) (apps : List AppState) → IsSome (current_at place apps)
    → place < length apps
place_within place apps some =
    let number = value_of (current_at place apps) some in
    let app = then_value (λ (a : AppState). a.current) (slice_get apps place) number.0 number.1 in
    slice_get_within apps place app.0 app.1

-- the version of the view that is read
pub version_read : (key : Key) (tables : Tables) (view : View) → current_row key tables ≡ Some view
    → current_version key tables ≡ Some view.deployment.identity.version
version_read key tables view is = ap (option_map (λ (v : View). v.deployment.identity.version)) is

-- the effect of what was heard, where a version is current for the key
pub heard_at : (key : Key) (tables : Tables) (have version : Version) (minimum : Option Version)
    (now : ℕ) → current_version key tables ≡ Some have
    → record tables { apps = with_entry key (heard_app have version minimum now) tables.apps }
    ≡ effect (Heard key version minimum now) tables
heard_at key tables have version minimum now is =
    ap (λ (current : Option Version). option_map_or (λ (v : Version). record tables {
      apps = with_entry key (heard_app v version minimum now) tables.apps;
    }) current tables) (sym is)

-- ---- stores with the entry of a known key changed

-- an application is the entry of its own key
pub own_entry : (apps : List AppState) (place : ℕ) (app : AppState) → AreInOrder apps
    → slice_get apps place ≡ Some app → entry_of app.key apps ≡ Some app
own_entry apps place app order stands =
    let read : get_or apps place app ≡ app = get_or_from_slice_get apps place app app stands in
    found app.key apps place app order (slice_get_within apps place app stands)
    (ap (λ (a : AppState). key_cmp a.key app.key) read ∙ tied_itself text_order
    (key_text app.key))
    ∙ ap Some read

module _ (key : Key) (f : AppState → AppState) (keeps : KeepsKeys f)
    (keeps_current : (app : AppState) → IsSome app.current → IsSome (f app).current) (old : Store)
    (known : IsSome (entry_of key old.apps))
    (made : (app : AppState) → IsApp old.views app → IsApp old.views (f app)) where
  pub entry_ordered : Ordered old → Ordered (record old { apps = with_entry key f old.apps })
  entry_ordered was =
      let app = value_of (entry_of key old.apps) known in
      let of = entry_in key old.apps app.0 app.1 in
      let place = contains_in old.apps app.0 of.0 in
      let stands : slice_get old.apps place.0 ≡ Some app.0 =
      slice_get-get_or old.apps place.0 app.0 place.1 ∙ ap Some place.2 in
      let own = own_entry old.apps place.0 app.0 was.order stands in
      let same = placed_entry key f old.apps place.0 app.0 was.order stands of.1
      ∙ sym (placed_entry app.0.key f old.apps place.0 app.0 was.order stands
      (tied_itself text_order (key_text app.0.key))) in
      subst (λ (apps : List AppState). Ordered (record old { apps = apps })) (sym same)
      (known_ordered app.0.key f keeps keeps_current old
      (all_in (IsApp old.views) old.apps app.0 was.apps of.0).key
      (some_there (entry_of app.0.key old.apps) app.0 own) made was)

-- ---- what is shown

same_version : (o : Option View)
    → option_map (λ (v : BareView). v.deployment.identity.version) (option_map bare_row o)
    ≡ option_map (λ (v : View). v.deployment.identity.version) o
same_version None = refl
same_version (Some view) = refl

-- the version that is current in the tables and in their shape
pub version_shown : (room : Room) (tables : Tables) (key : Key)
    → current_version key tables ≡ shape_version key (table_shape room tables)
version_shown room tables key =
    sym (same_version (current_row key tables))
    ∙ ap (option_map (λ (v : BareView). v.deployment.identity.version))
    (bare_current key tables room)

abbrev pub store_with : Room → List ℕ → Tables → List AppState → Store
store_with room image tables apps = record (shown_store room image tables) { apps = apps }

pub shows_heard : (room : Room) (tables : Tables) (key : Key) (have version : Version)
    (minimum : Option Version) (now : ℕ) (image later : List ℕ) (store : Store)
    → Shows room tables image store → SameFiles room tables image later
    → shape_version key (table_shape room tables) ≡ Some have
    → Shows room (effect (Heard key version minimum now) tables) later
    (record store { apps = with_entry key (heard_app have version minimum now) store.apps })
shows_heard room tables key have version minimum now image later store first same current =
    let shows = shows_same later same first in
    let heard = with_entry key (heard_app have version minimum now) in
    let made : Shows room (record tables { apps = heard tables.apps }) later
    (record store { apps = heard store.apps }) =
    record {
      is = ap (λ (s : Store). record s { apps = heard s.apps }) shows.is;
      held = shows.held;
      whole = shows.whole;
      measured = shows.measured;
    } in
    subst (λ (t : Tables). Shows room t later (record store { apps = heard store.apps }))
    (heard_at key tables have version minimum now (version_shown room tables key ∙ current)) made

pub shows_unheard : (room : Room) (tables : Tables) (key : Key) (image later : List ℕ)
    (store : Store) → Shows room tables image store → SameFiles room tables image later
    → Shows room (effect (Unheard key) tables) later (unheard_store key store)
shows_unheard room tables key image later store first same =
    let shows = shows_same later same first in
    record {
      is = ap (unheard_store key) shows.is;
      held = shows.held;
      whole = shows.whole;
      measured = shows.measured;
    }

pub shows_skipped : (room : Room) (tables : Tables) (key : Key) (place : ℕ) (offer : Version)
    (image later : List ℕ) (store : Store) → Shows room tables image store
    → SameFiles room tables image later → AreInOrder tables.apps
    → slice_get tables.apps place ≡ entry_of key tables.apps
    → offer_of key tables.apps ≡ Some offer
    → Shows room (effect (Skip place) tables) later (skipped key store)
shows_skipped room tables key place offer image later store first same order stands offered =
    let shows = shows_same later same first in
    let app = then_value (λ (a : AppState). a.offer) (entry_of key tables.apps) offer offered in
    record {
      is =
          ap (skipped key) shows.is
          ∙ ap (store_with room later tables)
          (placed_entry key skipped_app tables.apps place app.0 order (stands ∙ app.1)
          (entry_in key tables.apps app.0 app.1).1);
      held = shows.held;
      whole = shows.whole;
      measured = shows.measured;
    }
