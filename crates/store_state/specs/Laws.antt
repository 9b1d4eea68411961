-- What is true of tables and the stores that they show.
use Rattle.std.specs.Prelude.{◌≡◌, ◌≤◌, ◌++◌, ◌==◌, ℕ, List, [], ◌∷◌, All, Some, filter, is_some, map, not, option_and_then, option_map, slice_get}
use Rattle.std.specs.List.{list_any}
use Rattle.small_types.specs.declared.room.Room.{Room}
use Rattle.small_types.specs.declared.target.Target.{Target}
use Rattle.identity.specs.declared.key.Key.{Key}
use Rattle.identity.specs.declared.version.Version.{Version}
use Rattle.manifests.specs.declared.facts.Deployment.{Deployment}
use Rattle.machine.specs.Blocks.{used_blocks}
use Rattle.machine.specs.CheckRow.{checked, unheard_store}
use Rattle.machine.specs.CleanRow.{cleaned}
use Rattle.machine.specs.Current.{bare_view_at, current_of, current_version, view_at}
use Rattle.machine.specs.DataFiles.{bare_data_named, data_named, put_in, removed_in}
use Rattle.machine.specs.Entries.{AreInOrder, entry_of}
use Rattle.machine.specs.FinishRow.{finished}
use Rattle.machine.specs.Grouped.{StandAmong, grouped}
use Rattle.machine.specs.Groups.{group_files}
use Rattle.machine.specs.InUse.{IsInUse}
use Rattle.machine.specs.Installed.{with_view}
use Rattle.machine.specs.LaunchRow.{launched}
use Rattle.machine.specs.ReadRow.{entry_named, file_named}
use Rattle.machine.specs.RequireRow.{required}
use Rattle.machine.specs.RollbackRow.{rolled_back}
use Rattle.machine.specs.Shape.{shape_of}
use Rattle.machine.specs.SkipRow.{offer_of, skipped}
use Rattle.machine.specs.Store.{Session, Store, booted, empty as empty_store}
use Rattle.machine.specs.Valid.{Ordered, Valid}
use Rattle.machine.specs.Views.{ListedFile, standing_entries}
use Rattle.machine.specs.Weight.{IsLight, weight_of}
use Rattle.store_state.specs.declared.change.Change.{Change}
use Rattle.store_state.specs.declared.change.Change.TheVariants.{Boot, Require, Install, Heard, Unheard, Skip, Rollback, Launch, Finish, Group, Put, Remove, Clean}
use Rattle.store_state.specs.declared.view.Content.{Content}
use Rattle.store_state.specs.declared.view.LocalFile.{LocalFile}
use Rattle.store_state.specs.declared.view.View.{View}
use Rattle.store_state.specs.Change.{Fits, effect}
use Rattle.store_state.specs.Dropped.{dropped}
use Rattle.store_state.specs.Kept.{AreTables}
use Rattle.store_state.specs.Locals.{local_at}
use Rattle.store_state.specs.Measured.{AreMeasured, BringsMeasured}
use Rattle.store_state.specs.Named.{content_at, file_at, named_at}
use Rattle.store_state.specs.Rows.{row_at}
use Rattle.store_state.specs.Shows.{HoldsNew, SameFiles, Shows, shown_data, shown_file, shown_view}
use Rattle.store_state.specs.Stored.{content_bytes}
use Rattle.store_state.specs.Tables.{Tables, bare_row, empty, table_shape}

-- tables show one store
abbrev pub OneStoreIsShown : Type 0
OneStoreIsShown = (room : Room) (tables : Tables) (image : List ℕ) (a b : Store)
    → Shows room tables image a → Shows room tables image b → a ≡ b

-- a session without jobs, over a store that tables show, has their shape
abbrev pub ShapesAreShown : Type 0
ShapesAreShown = (room : Room) (tables : Tables) (image : List ℕ) (session : Session)
    → session.jobs ≡ [] → Shows room tables image session.store
    → shape_of session ≡ table_shape room tables

-- Tables show a store within its order and its limits. Where its files and its tables have room, it is
-- valid.
pub record ShowsOrdered (room : Room) (tables : Tables) (image : List ℕ) : Type 0 where
  pub store : Store
  pub shows : Shows room tables image store
  pub ordered : Ordered store
  pub valid : used_blocks (map bare_row tables.views) ≤ room.blocks
      → IsLight room (weight_of (map bare_row tables.views) tables.apps) → Valid store

-- A change that fits leads from tables that show a store in its order to tables that show one.
abbrev pub EachChangeShowsAnOrderedStore : Type 0
EachChangeShowsAnOrderedStore = (room : Room) (tables : Tables) (change : Change)
    (image later : List ℕ) (store : Store) → Shows room tables image store → Ordered store
    → SameFiles room tables image later → HoldsNew room change later → Fits tables change
    → ShowsOrdered room (effect change tables) later

-- the empty tables show the empty store
abbrev pub EmptyTablesAreShown : Type 0
EmptyTablesAreShown = (room : Room) (image : List ℕ) → Shows room empty image (empty_store room)

-- another boot number leads to tables that show the store with it
abbrev pub BootsShowTheStore : Type 0
BootsShowTheStore = (room : Room) (tables : Tables) (boot : ℕ) (image later : List ℕ)
    (store : Store) → Shows room tables image store → SameFiles room tables image later
    → Shows room (effect (Boot boot) tables) later (booted boot store)

-- A version below which an application does not run leads to tables that show the store in which
-- its minimum is raised.
abbrev pub RequiresShowTheEntry : Type 0
RequiresShowTheEntry = (room : Room) (tables : Tables) (key : Key) (version : Version)
    (image later : List ℕ) (store : Store) → Shows room tables image store
    → SameFiles room tables image later
    → Shows room (effect (Require key version) tables) later
    (record store { apps = required key version store.apps })

-- an install that fits leads from tables that show a store to tables that show it with the new view
abbrev pub InstallsShowTheView : Type 0
InstallsShowTheView = (room : Room) (tables : Tables) (view : View) (contents : List Content)
    (provider : Target) (now : ℕ) (image later : List ℕ) (store : Store)
    → Shows room tables image store → SameFiles room tables image later
    → HoldsNew room (Install view contents provider now) later
    → Fits tables (Install view contents provider now)
    → Shows room (effect (Install view contents provider now) tables) later
    (with_view provider view.base view.deployment view.application
    (map (shown_file room later (effect (Install view contents provider now) tables).contents)
    (standing_entries view.groups view.application))
    (map (shown_data room later) view.locals) now store)

-- A launch of the application of a key leads to tables that show the store with one more lease on
-- its current view.
abbrev pub LaunchesShowTheLease : Type 0
LaunchesShowTheLease = (room : Room) (tables : Tables) (key : Key) (place view : ℕ)
    (image later : List ℕ) (store : Store) → Shows room tables image store
    → SameFiles room tables image later
    → AreInOrder tables.apps → slice_get tables.apps place ≡ entry_of key tables.apps
    → current_of key tables.apps ≡ Some view
    → Shows room (effect (Launch place) tables) later (launched key view store)

-- a finish leads to tables that show the store without the lease
abbrev pub FinishesShowTheRest : Type 0
FinishesShowTheRest = (room : Room) (tables : Tables) (lease : ℕ) (image later : List ℕ)
    (store : Store) → Shows room tables image store → SameFiles room tables image later
    → Shows room (effect (Finish lease) tables) later (finished lease store)

-- What was heard of the provider of a key with a current view leads to tables that show the store
-- with that noted; so does a check that heard nothing.
abbrev pub ChecksShowTheEntry : Type 0
ChecksShowTheEntry = (room : Room) (tables : Tables) (key : Key) (have : Version) (d : Deployment)
    (now : ℕ) (image later : List ℕ) (store : Store) → Shows room tables image store
    → SameFiles room tables image later
    → current_version key (table_shape room tables) ≡ Some have
    → Shows room (effect (Heard key d.identity.version d.minimum now) tables) later
    (checked key have d now store)

abbrev pub UnheardChecksShowTheEntry : Type 0
UnheardChecksShowTheEntry = (room : Room) (tables : Tables) (key : Key) (image later : List ℕ)
    (store : Store) → Shows room tables image store → SameFiles room tables image later
    → Shows room (effect (Unheard key) tables) later (unheard_store key store)

-- a skip of what is offered for a key leads to tables that show the store in which it is skipped
abbrev pub SkipsShowTheEntry : Type 0
SkipsShowTheEntry = (room : Room) (tables : Tables) (key : Key) (place : ℕ) (offer : Version)
    (image later : List ℕ) (store : Store) → Shows room tables image store
    → SameFiles room tables image later
    → AreInOrder tables.apps → slice_get tables.apps place ≡ entry_of key tables.apps
    → offer_of key tables.apps ≡ Some offer
    → Shows room (effect (Skip place) tables) later (skipped key store)

-- A rollback of the application of a key with a current view leads to tables that show the store in
-- which its previous view is current and the version that was current is excluded.
abbrev pub RollbacksShowTheEntry : Type 0
RollbacksShowTheEntry = (room : Room) (tables : Tables) (key : Key) (place : ℕ) (have : Version)
    (image later : List ℕ) (store : Store) → Shows room tables image store
    → SameFiles room tables image later
    → AreInOrder tables.apps → slice_get tables.apps place ≡ entry_of key tables.apps
    → current_version key (table_shape room tables) ≡ Some have
    → Shows room (effect (Rollback place) tables) later (rolled_back key have store)

-- a clean leads to tables that show the store without the views that are not in use
abbrev pub CleansShowTheRest : Type 0
CleansShowTheRest = (room : Room) (tables : Tables) (image later : List ℕ) (store : Store)
    → Shows room tables image store → SameFiles room tables image later
    → Shows room (effect Clean tables) later (cleaned store)

-- the store without the views of these numbers
abbrev pub without_views : List ℕ → Store → Store
without_views numbers old = record old {
  views = filter (λ view. not (list_any (λ number. number == view.number) numbers)) old.views;
}

-- The tables show the store without these views. It stays within its order and its limits, and
-- valid.
pub record ShowsDropped (room : Room) (numbers : List ℕ) (tables : Tables) (later : List ℕ)
    (store : Store) : Type 0 where
  pub shows : Shows room (dropped numbers tables) later (without_views numbers store)
  pub ordered : Ordered store → Ordered (without_views numbers store)
  pub valid : Valid store → Valid (without_views numbers store)

-- views that are not in use may be dropped
abbrev pub DropsShowTheRest : Type 0
DropsShowTheRest = (room : Room) (tables : Tables) (numbers image later : List ℕ) (store : Store)
    → Shows room tables image store → SameFiles room tables image later
    → All (λ number. ¬ IsInUse number tables.apps tables.leases) numbers
    → ShowsDropped room numbers tables later store

-- the files that a group brings to a view, and all that stand in it then
abbrev pub came_files : Room → List ℕ → Tables → List Content → List ℕ → View → List ListedFile
came_files room image tables contents group row =
    map (shown_file room image (tables.contents ++ contents)) (group_files group row.application)

abbrev pub stand_files : Room → List ℕ → Tables → List Content → List ℕ → View → List ListedFile
stand_files room image tables contents group row =
    map (shown_file room image (tables.contents ++ contents))
    (standing_entries (row.groups ++ group ∷ []) row.application)

-- The tables with a group of the view show the store in which its files stand among those that
-- stood.
pub record ShowsGroup (room : Room) (tables : Tables) (number : ℕ) (group : List ℕ)
    (contents : List Content) (row : View) (later : List ℕ) (store : Store) : Type 0 where
  pub numbered : row.number ≡ number
  pub there : view_at number store.views ≡ Some (shown_view room later tables.contents row)
  pub listed : map (λ file. file.entry) (came_files room later tables contents group row)
      ≡ group_files group row.application
  pub among : StandAmong group (shown_view room later tables.contents row)
      (came_files room later tables contents group row)
      (stand_files room later tables contents group row)
  pub shows : Shows room (effect (Group number group contents) tables) later
      (grouped number group (stand_files room later tables contents group row) store)

-- a group that fits leads to such tables
abbrev pub GroupsShowTheFiles : Type 0
GroupsShowTheFiles = (room : Room) (tables : Tables) (number : ℕ) (group : List ℕ)
    (contents : List Content) (row : View) (image later : List ℕ) (store : Store)
    → Shows room tables image store → SameFiles room tables image later
    → HoldsNew room (Group number group contents) later → AreTables tables
    → row_at number tables.views ≡ Some row
    → Fits tables (Group number group contents)
    → ShowsGroup room tables number group contents row later store

-- A data file that is put, and one that is removed, lead to tables that show the store with it and
-- without it.
abbrev pub PutsShowTheFile : Type 0
PutsShowTheFile = (room : Room) (tables : Tables) (number : ℕ) (file : LocalFile)
    (image later : List ℕ) (store : Store) → Shows room tables image store
    → SameFiles room tables image later
    → HoldsNew room (Put number file) later
    → Shows room (effect (Put number file) tables) later
    (put_in number (shown_data room later file) store)

abbrev pub RemovalsShowTheRest : Type 0
RemovalsShowTheRest = (room : Room) (tables : Tables) (number : ℕ) (name : List ℕ)
    (image later : List ℕ) (store : Store) → Shows room tables image store
    → SameFiles room tables image later
    → Shows room (effect (Remove number name) tables) later (removed_in number name store)

-- a data file that is found in the tables is that of the view that is shown
abbrev pub LocalsShowFiles : Type 0
LocalsShowFiles = (room : Room) (tables : Tables) (number : ℕ) (name image : List ℕ) (store : Store)
    → Shows room tables image store
    → option_map (shown_data room image) (local_at number name tables)
    ≡ option_and_then (λ view. data_named name view.data_files) (view_at number store.views)

-- where none is found, no data file of that name stands in the view
abbrev pub LocalsShowNames : Type 0
LocalsShowNames = (room : Room) (tables : Tables) (number : ℕ) (name : List ℕ)
    → is_some (local_at number name tables) ≡ is_some (option_and_then
    (λ view. bare_data_named name view.data_files)
    (bare_view_at number (table_shape room tables).views))

-- the bytes that are found in the tables are those of the file in the view that is shown
abbrev pub ReadsShowFiles : Type 0
ReadsShowFiles = (room : Room) (tables : Tables) (number : ℕ) (name image : List ℕ) (store : Store)
    → Shows room tables image store
    → file_at room image number name tables ≡ option_and_then
    (λ view. option_map (λ file. file.bytes) (file_named name view.program_files))
    (view_at number store.views)

-- where none are found, no program file of that name stands in the view
abbrev pub ReadsShowNames : Type 0
ReadsShowNames = (room : Room) (tables : Tables) (number : ℕ) (name : List ℕ)
    → is_some (named_at number name tables) ≡ is_some (option_and_then
    (λ view. entry_named name (standing_entries view.groups view.application))
    (bare_view_at number (table_shape room tables).views))

-- a program file that is found in the tables has the bytes of its content
abbrev pub FilesAreTheirContents : Type 0
FilesAreTheirContents = (room : Room) (tables : Tables) (number : ℕ) (name image : List ℕ)
    → AreTables tables
    → file_at room image number name tables
    ≡ option_map (content_bytes room image) (content_at number name tables)

-- and it has one
abbrev pub NamesHaveContents : Type 0
NamesHaveContents = (tables : Tables) (number : ℕ) (name : List ℕ) → AreTables tables
    → is_some (content_at number name tables) ≡ is_some (named_at number name tables)

-- A change that brings files with as many blocks as their lengths need leaves tables of which each
-- file has so many.
abbrev pub MeasuredTablesStay : Type 0
MeasuredTablesStay = (tables : Tables) (change : Change) → AreMeasured tables
    → BringsMeasured change → AreMeasured (effect change tables)

-- the empty tables have no file
abbrev pub EmptyTablesAreMeasured : Type 0
EmptyTablesAreMeasured = AreMeasured empty
