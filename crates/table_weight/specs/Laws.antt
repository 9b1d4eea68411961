-- What holds of all tables' weights.
use Rattle.std.specs.Prelude.{◌≡◌, ◌≤◌, ℕ, List, [], ◌∷◌, ◌++◌, All, IsSome, filter, length, map, sum_by}
use Rattle.small_types.specs.declared.room.Room.{Room}
use Rattle.small_types.specs.declared.target.Target.{Target}
use Rattle.identity.specs.declared.key.Key.{Key}
use Rattle.identity.specs.declared.version.Version.{Version}
use Rattle.machine.specs.BareViews.{new_bare, with_bare_at, with_bare_data, with_bare_group}
use Rattle.machine.specs.Entries.{entry_of, with_entry}
use Rattle.machine.specs.InstallRow.{weight_installed, with_provider}
use Rattle.machine.specs.Migrated.{Migrated}
use Rattle.machine.specs.RequireRow.{required}
use Rattle.machine.specs.Shape.{bare_data}
use Rattle.machine.specs.Views.{DataFile, ListedFile}
use Rattle.machine.specs.Weight.{data_weight, weight_of}
use Rattle.store_state.specs.declared.change.Change.{Change}
use Rattle.store_state.specs.declared.change.Change.TheVariants.{Boot, Require, Install, Heard, Unheard, Skip, Rollback, Launch, Finish, Group, Put, Remove, Clean}
use Rattle.store_state.specs.declared.view.Content.{Content}
use Rattle.store_state.specs.declared.view.LocalFile.{LocalFile}
use Rattle.store_state.specs.declared.view.View.{View}
use Rattle.store_state.specs.Change.{Fits, IsRow, effect}
use Rattle.store_state.specs.Kept.{AreTables}
use Rattle.store_state.specs.Rows.{current_row, row_files, row_locals}
use Rattle.store_state.specs.Tables.{Tables, bare_local, bare_row, table_shape}
use Rattle.table_weight.specs.Weight.{tables_weight}

-- Tables weigh what the machine says of their views and applications: their contents are those of
-- the program files that stand in the views, each once.
abbrev pub WeighAsShown : Type 0
WeighAsShown = (tables : Tables) → AreTables tables
    → tables_weight tables ≡ weight_of (map bare_row tables.views) tables.apps

-- ---- once they are changed

-- what holds of all tables holds after a change that fits
abbrev pub StayTables : Type 0
StayTables = (tables : Tables) (change : Change) → AreTables tables → Fits tables change
    → AreTables (effect change tables)

-- After a require they weigh what their views do with the applications among which the key has an
-- entry.
abbrev pub WeighWithKey : Type 0
WeighWithKey = (tables : Tables) (key : Key) (version : Version) → AreTables tables
    → Fits tables (Require key version)
    → tables_weight (effect (Require key version) tables)
    ≡ weight_of (map bare_row tables.views) (required key version tables.apps)

-- after a put, what they do with the data file in the view
abbrev pub WeighWithData : Type 0
WeighWithData = (tables : Tables) (number : ℕ) (file : LocalFile) → AreTables tables
    → Fits tables (Put number file)
    → tables_weight (effect (Put number file) tables)
    ≡ weight_of
    (with_bare_at number (with_bare_data (bare_local file)) (map bare_row tables.views))
    tables.apps

-- after a group, what they do with it among the groups of the view
abbrev pub WeighWithGroup : Type 0
WeighWithGroup = (tables : Tables) (number : ℕ) (group : List ℕ) (contents : List Content)
    → AreTables tables → Fits tables (Group number group contents)
    → tables_weight (effect (Group number group contents) tables)
    ≡ weight_of (with_bare_at number (with_bare_group group) (map bare_row tables.views))
    tables.apps

-- After an install, what they do with the view behind the others. Of what it changes in the
-- application, the provider alone weighs.
abbrev pub WeighWithRelease : Type 0
WeighWithRelease = (tables : Tables) (view : View) (contents : List Content) (provider : Target)
    (now : ℕ) → AreTables tables → Fits tables (Install view contents provider now)
    → tables_weight (effect (Install view contents provider now) tables)
    ≡ weight_of (map bare_row tables.views ++ bare_row view ∷ [])
    (with_entry view.deployment.identity.key (with_provider provider) tables.apps)

-- the data files of the view weigh what those do that an install of its release brings, whose order
-- plays no part
abbrev pub WeighsAsMigrated : Room → Tables → View → Type 0
WeighsAsMigrated room tables view =
    sum_by data_weight (map bare_local view.locals)
    ≡ sum_by data_weight
    (new_bare view.base view.deployment view.application (table_shape room tables)).data_files

-- where they do, it is the weight that the row of an install compares
abbrev pub WeighAsInstalled : Type 0
WeighAsInstalled = (room : Room) (tables : Tables) (view : View) (contents : List Content)
    (provider : Target) (now : ℕ) → AreTables tables
    → Fits tables (Install view contents provider now)
    → WeighsAsMigrated room tables view
    → tables_weight (effect (Install view contents provider now) tables)
    ≡ weight_installed provider view.base view.deployment view.application
    (table_shape room tables)

-- They do where the release makes, of data files with the names and lengths of the old ones and of
-- the files that it deploys, data files with the names and lengths of those of the view.
abbrev pub MigratedDataWeigh : Type 0
MigratedDataWeigh = (room : Room) (tables : Tables) (view : View) (old new : List DataFile)
    (originals : List ListedFile) → AreTables tables → IsRow view
    → map bare_data old
    ≡ map bare_local (row_locals (current_row view.deployment.identity.key tables))
    → map bare_data new ≡ map bare_local view.locals
    → map (λ file. file.entry) originals ≡ filter (λ entry. entry.local) view.application.files
    → All (λ file. length file.bytes ≡ file.entry.size) originals
    → Migrated old (row_files (current_row view.deployment.identity.key tables))
    view.application.files originals new
    → WeighsAsMigrated room tables view

-- nothing comes that weighs: no new application, no view, no group and no data file
abbrev pub BringsNothing : Tables → Change → Type 0
BringsNothing old (Boot boot) = Unit {0}
BringsNothing old (Require key version) = IsSome (entry_of key old.apps)
BringsNothing old (Install view contents provider now) = ⊥
BringsNothing old (Heard key version minimum now) = Unit {0}
BringsNothing old (Unheard key) = Unit {0}
BringsNothing old (Skip app) = Unit {0}
BringsNothing old (Rollback app) = Unit {0}
BringsNothing old (Launch app) = Unit {0}
BringsNothing old (Finish lease) = Unit {0}
BringsNothing old (Group view group contents) = ⊥
BringsNothing old (Put view file) = ⊥
BringsNothing old (Remove view name) = Unit {0}
BringsNothing old Clean = Unit {0}

-- after such a change they weigh no more
abbrev pub LightenOthers : Type 0
LightenOthers = (tables : Tables) (change : Change) → AreTables tables → Fits tables change
    → BringsNothing tables change → tables_weight (effect change tables) ≤ tables_weight tables
