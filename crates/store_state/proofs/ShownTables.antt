-- What tables show, before a change and after it.
use Rattle.std.proofs.Common.{◌≡◌, ◌∙◌, ◌++◌, ◌+◌, ℕ, List, [], ◌∷◌, All, IsSome, Option, Some, None, map, length, refl, sym, ap, subst}
use Rattle.std.specs.Prelude.{option_and_then, slice_get}
use Rattle.std.specs.Option.{option_map_or, option_or}
use Rattle.std.proofs.lemmas.List.{map-append}
use Rattle.std.proofs.lemmas.List.Elements.{All-append, All-head, All-nil, All-push, All-tail, All-weaker}
use Rattle.std.proofs.lemmas.List.Folds.{find-append}
use Rattle.small_types.specs.declared.room.Room.{Room}
use Rattle.small_types.specs.declared.target.Target.{Target}
use Rattle.identity.specs.declared.key.Key.{Key}
use Rattle.identity.specs.declared.version.Version.{Version}
use Rattle.manifests.specs.declared.facts.FileEntry.{FileEntry}
use Rattle.machine.specs.declared.app.AppState.{AppState}
use Rattle.machine.specs.Current.{current_of}
use Rattle.machine.specs.Entries.{AreInOrder, entry_of, with_entry}
use Rattle.machine.specs.FinishRow.{finished}
use Rattle.machine.specs.Installed.{installed_app, new_view, with_view}
use Rattle.machine.specs.LaunchRow.{launched, started_app}
use Rattle.machine.specs.RequireRow.{required}
use Rattle.machine.specs.Shape.{BareData, BareView, bare_data, bare_view, shape_of}
use Rattle.machine.specs.Store as stores
use Rattle.machine.specs.Store.{Job, Session, Store, booted}
use Rattle.machine.specs.Views.{DataFile, ListedFile, standing_entries}
use Rattle.machine.specs.Views.{View as KeptView}
use Rattle.machine.proofs.Leased.{current_by, entry_in}
use Rattle.store_state.specs.declared.change.Change.TheVariants.{Boot, Finish, Install, Launch, Require}
use Rattle.store_state.specs.declared.view.Content.{Content}
use Rattle.store_state.specs.declared.view.LocalFile.{LocalFile}
use Rattle.store_state.specs.declared.view.View.{View}
use Rattle.store_state.specs.Change.{FitsInstall, effect, leased}
use Rattle.store_state.specs.Contents.{content_of, is_content_of}
use Rattle.store_state.specs.Rows.{current_at, with_app}
use Rattle.store_state.specs.Shows.{HoldsNew, SameFiles, Shows, bytes_in, shown_data, shown_file, shown_store, shown_view}
use Rattle.store_state.specs.Stored.{HasLocals, content_bytes, data_bytes}
use Rattle.store_state.specs.Tables.{Tables, bare_local, bare_row, empty, table_shape}
use Rattle.store_state.proofs.Images.{contents_stay, locals_stay, views_same}
use Rattle.store_state.proofs.Keyed.{found_more}
use Rattle.store_state.proofs.Placed.{placed_entry}

-- each program file that stands in the view has its content
abbrev pub IsHeld : List Content → View → Type 0
IsHeld contents view =
    All (λ (entry : FileEntry). IsSome (content_of contents entry))
    (standing_entries view.groups view.application)

-- the image has as many bytes of the content as its size says
abbrev pub IsWhole : Room → List ℕ → Content → Type 0
IsWhole room image content = length (content_bytes room image content) ≡ content.size

-- each data file has as many bytes as its length says
abbrev pub HasMeasured : Room → List ℕ → View → Type 0
HasMeasured room image view = HasLocals room image view.locals

-- ---- one store

pub one_shown : (room : Room) (tables : Tables) (image : List ℕ) (a b : Store)
    → Shows room tables image a → Shows room tables image b → a ≡ b
one_shown room tables image a b first second = first.is ∙ sym second.is

bare_locals : (room : Room) (image : List ℕ) (files : List LocalFile)
    → All (λ (file : LocalFile). length (data_bytes room image file) ≡ file.length) files
    → map bare_data (map (shown_data room image) files) ≡ map bare_local files
bare_locals room image [] measured = refl
bare_locals room image (file ∷ files) measured =
    ap (λ (n : ℕ). record { name = file.name; length = n } ∷ map bare_data (map (shown_data room image) files))
    (All-head (λ (f : LocalFile). length (data_bytes room image f) ≡ f.length) file files measured)
    ∙ ap (λ (rest : List BareData). bare_local file ∷ rest)
    (bare_locals room image files (All-tail (λ (f : LocalFile). length (data_bytes room image f) ≡ f.length) file files
    measured))

bare_shown : (room : Room) (image : List ℕ) (contents : List Content) (view : View)
    → HasMeasured room image view
    → bare_view (shown_view room image contents view) ≡ bare_row view
bare_shown room image contents view measured =
    ap (λ (datas : List BareData). record (bare_row view) { data_files = datas })
    (bare_locals room image view.locals measured)

bare_views : (room : Room) (image : List ℕ) (contents : List Content) (views : List View)
    → All (HasMeasured room image) views
    → map bare_view (map (shown_view room image contents) views) ≡ map bare_row views
bare_views room image contents [] measured = refl
bare_views room image contents (view ∷ views) measured =
    ap (λ (bare : BareView). bare ∷ map bare_view (map (shown_view room image contents) views))
    (bare_shown room image contents view (All-head (HasMeasured room image) view views measured))
    ∙ ap (λ (rest : List BareView). bare_row view ∷ rest)
    (bare_views room image contents views (All-tail (HasMeasured room image) view views measured))

-- a session without jobs, over a store that tables show, has their shape
pub shape_shown : {room : Room} {tables : Tables} {image : List ℕ} (session : Session)
    → session.jobs ≡ [] → Shows room tables image session.store
    → shape_of session ≡ table_shape room tables
shape_shown {room = room} {tables = tables} {image = image} session none shows =
    ap (λ (store : Store). shape_of (record session { store = store })) shows.is
    ∙ ap (λ (views : List BareView). record (shape_of (record session { store = shown_store room image tables })) { views = views })
    (bare_views room image tables.contents tables.views shows.measured)
    ∙ ap (λ (jobs : List Job). record (table_shape room tables) { jobs = map (λ (job : Job). job.application) jobs }) none

-- ---- another image, and each change

-- an image with the same files shows the same store
pub shows_same : {room : Room} {tables : Tables} {before : List ℕ} {store : Store} (after : List ℕ)
    → SameFiles room tables before after → Shows room tables before store
    → Shows room tables after store
shows_same {room = room} {tables = tables} {before = before} after same shows = record {
  is =
      shows.is
      ∙ ap (λ (views : List KeptView). record (shown_store room before tables) { views = views })
      (sym (views_same room before after tables.contents same.contents tables.views same.locals));
  held = shows.held;
  whole = contents_stay room tables before after same shows.whole;
  measured = locals_stay room tables before after same shows.measured;
}

pub shows_empty : (room : Room) (image : List ℕ) → Shows room empty image (stores.empty room)
shows_empty room image = record {
  is = refl;
  held = All-nil _;
  whole = All-nil _;
  measured = All-nil _;
}

pub shows_booted : {room : Room} {tables : Tables} {before : List ℕ} {store : Store} (after : List ℕ)
    (boot : ℕ) → SameFiles room tables before after → Shows room tables before store
    → Shows room (effect (Boot boot) tables) after (booted boot store)
shows_booted after boot same first =
    let shows = shows_same after same first in
    record {
      is = ap (booted boot) shows.is;
      held = shows.held;
      whole = shows.whole;
      measured = shows.measured;
    }

pub shows_required : {room : Room} {tables : Tables} {before : List ℕ} {store : Store}
    (after : List ℕ) (key : Key) (version : Version) → SameFiles room tables before after
    → Shows room tables before store
    → Shows room (effect (Require key version) tables) after
    (record store { apps = required key version store.apps })
shows_required after key version same first =
    let shows = shows_same after same first in
    record {
      is = ap (λ (s : Store). record s { apps = required key version s.apps }) shows.is;
      held = shows.held;
      whole = shows.whole;
      measured = shows.measured;
    }

-- ---- a launch and a finish

-- the effect of a launch, where a view is current for the application at the place
pub launched_at : (place view : ℕ) (tables : Tables) → current_at place tables.apps ≡ Some view
    → record (leased view tables) { apps = with_app place started_app tables.apps }
    ≡ effect (Launch place) tables
launched_at place view tables is =
    ap (λ (o : Option ℕ). option_map_or (λ (number : ℕ). record (leased number tables) {
      apps = with_app place started_app tables.apps;
    }) o tables) (sym is)

module _ (room : Room) (tables : Tables) (key : Key) (place view : ℕ) (image later : List ℕ)
    (store : Store) (first : Shows room tables image store)
    (same : SameFiles room tables image later) (order : AreInOrder tables.apps)
    (stands : slice_get tables.apps place ≡ entry_of key tables.apps)
    (current : current_of key tables.apps ≡ Some view) where
  current_is : current_at place tables.apps ≡ Some view
  current_is =
      ap (λ (o : Option AppState). option_and_then (λ (app : AppState). app.current) o) stands
      ∙ current

  started_is : with_entry key started_app tables.apps ≡ with_app place started_app tables.apps
  started_is =
      let app = current_by key tables.apps view current in
      placed_entry key started_app tables.apps place app.0 order (stands ∙ app.1)
      (entry_in key tables.apps app.0 app.1).1

  abbrev store_with : List AppState → Store
  store_with apps = record (shown_store room later (leased view tables)) { apps = apps }

  shows : Shows room tables later store
  shows = shows_same later same first

  shows_leased : Shows room
      (record (leased view tables) { apps = with_app place started_app tables.apps }) later
      (launched key view store)
  shows_leased = record {
    is = ap (launched key view) shows.is ∙ ap store_with started_is;
    held = shows.held;
    whole = shows.whole;
    measured = shows.measured;
  }

  pub shows_launched : Shows room (effect (Launch place) tables) later (launched key view store)
  shows_launched =
      subst (λ (t : Tables). Shows room t later (launched key view store))
      (launched_at place view tables current_is) shows_leased

pub shows_finished : {room : Room} {tables : Tables} {before : List ℕ} {store : Store}
    (after : List ℕ) (lease : ℕ) → SameFiles room tables before after
    → Shows room tables before store
    → Shows room (effect (Finish lease) tables) after (finished lease store)
shows_finished after lease same first =
    let shows = shows_same after same first in
    record {
      is = ap (finished lease) shows.is;
      held = shows.held;
      whole = shows.whole;
      measured = shows.measured;
    }

-- ---- an install

or_some : {X : Type 0} (a b : Option X) → IsSome a → option_or a b ≡ a
or_some (Some x) b some = refl
or_some None b some = absurd cc

-- a content that is held is the one that is shown
same_content_of : (entry : FileEntry) (old new : List Content) → IsSome (content_of old entry)
    → content_of (old ++ new) entry ≡ content_of old entry
same_content_of entry old new some =
    find-append (is_content_of entry) old new
    ∙ or_some (content_of old entry) (content_of new entry) some

pub same_files : (room : Room) (image : List ℕ) (old new : List Content) (entries : List FileEntry)
    → All (λ (entry : FileEntry). IsSome (content_of old entry)) entries
    → map (shown_file room image (old ++ new)) entries ≡ map (shown_file room image old) entries
same_files room image old new [] held = refl
same_files room image old new (entry ∷ entries) held =
    ap (λ (content : Option Content). record { entry = entry; bytes = bytes_in room image content } ∷ map
    (shown_file room image (old ++ new)) entries)
    (same_content_of entry old new (All-head (λ (e : FileEntry). IsSome (content_of old e))
    entry entries held))
    ∙ ap (λ (rest : List ListedFile). shown_file room image old entry ∷ rest)
    (same_files room image old new entries (All-tail (λ (e : FileEntry). IsSome (content_of old e)) entry
    entries held))

same_views : (room : Room) (image : List ℕ) (old new : List Content) (views : List View)
    → All (IsHeld old) views
    → map (shown_view room image (old ++ new)) views ≡ map (shown_view room image old) views
same_views room image old new [] held = refl
same_views room image old new (view ∷ views) held =
    ap (λ (files : List ListedFile). record (shown_view room image old view) { program_files = files } ∷ map
    (shown_view room image (old ++ new)) views)
    (same_files room image old new (standing_entries view.groups view.application)
    (All-head (IsHeld old) view views held))
    ∙ ap (λ (rest : List KeptView). shown_view room image old view ∷ rest)
    (same_views room image old new views (All-tail (IsHeld old) view views held))

module _ (room : Room) (tables : Tables) (view : View) (contents : List Content) (provider : Target)
    (now : ℕ) (image later : List ℕ) (store : Store) (first : Shows room tables image store)
    (same : SameFiles room tables image later)
    (holds : HoldsNew room (Install view contents provider now) later)
    (fits : FitsInstall tables view contents provider now) where
  abbrev after : List Content
  after = tables.contents ++ contents

  now_shows : Shows room tables later store
  now_shows = shows_same later same first

  abbrev pub files : List ListedFile
  files =
      map (shown_file room later (tables.contents ++ contents)) (standing_entries view.groups view.application)

  abbrev pub data_files : List DataFile
  data_files = map (shown_data room later) view.locals

  abbrev pub installed : Store
  installed =
      with_view provider view.base view.deployment view.application files data_files now store

  new_is : new_view tables.next_view view.base view.deployment view.application files
      data_files ≡ shown_view room later after view
  new_is =
      ap (λ (n : ℕ). new_view n view.base view.deployment view.application files data_files)
      (sym fits.number)
      ∙ ap (λ (groups : List (List ℕ)). record (shown_view room later after view) { groups = groups })
      (sym fits.groups)

  views_are : map (shown_view room later tables.contents) tables.views ++ new_view tables.next_view view.base
      view.deployment view.application files data_files ∷ [] ≡ map (shown_view room later after)
      (tables.views ++ view ∷ [])
  views_are =
      ap (λ (vs : List KeptView). vs ++ new_view tables.next_view view.base view.deployment
      view.application files data_files ∷ [])
      (sym (same_views room later tables.contents contents tables.views now_shows.held))
      ∙ ap (λ (v : KeptView). map (shown_view room later after) tables.views ++ v ∷ []) new_is
      ∙ sym (map-append (shown_view room later after) tables.views (view ∷ []))

  apps_are : with_entry view.deployment.identity.key
      (installed_app tables.next_view view.deployment provider now) tables.apps ≡ with_entry
      view.deployment.identity.key (installed_app view.number view.deployment provider now)
      tables.apps
  apps_are =
      ap (λ (n : ℕ). with_entry view.deployment.identity.key
      (installed_app n view.deployment provider now) tables.apps) (sym fits.number)

  abbrev made : List KeptView → List AppState → Store
  made views apps = record {
    room = room;
    boot = tables.boot;
    next_view = tables.next_view + 1;
    next_lease = tables.next_lease;
    leases = tables.leases;
    views = views;
    apps = apps;
  }

  pub shows_installed : Shows room (effect (Install view contents provider now) tables) later
      installed
  shows_installed = record {
    is =
        ap (λ (s : Store). with_view provider view.base view.deployment view.application files
        data_files now s) now_shows.is
        ∙ ap (λ (vs : List KeptView). made vs
        (with_entry view.deployment.identity.key
        (installed_app tables.next_view view.deployment provider now) tables.apps)) views_are
        ∙ ap (λ (apps : List AppState). made (map (shown_view room later after) (tables.views ++ view ∷ []))
        apps) apps_are;
    held = All-push (IsHeld after) tables.views view
        (All-weaker (IsHeld tables.contents) (IsHeld after)
        (λ v held. All-weaker (λ (e : FileEntry). IsSome (content_of tables.contents e))
        (λ (e : FileEntry). IsSome (content_of after e))
        (λ e some. found_more e tables.contents contents some)
        (standing_entries v.groups v.application) held) tables.views now_shows.held)
        fits.brings.each;
    whole =
        All-append (IsWhole room later) tables.contents contents now_shows.whole holds.0;
    measured =
        All-push (HasMeasured room later) tables.views view now_shows.measured holds.1;
  }
