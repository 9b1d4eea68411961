-- Changes of tables: which fit, and what they do.
use Rattle.std.specs.Prelude.{◌≡◌, ◌≢◌, ◌+◌, ◌<◌, ◌≤◌, ◌==◌, if◌then◌else◌, ℕ, false, List, [], ◌∷◌, ◌++◌, All, AllPairs, IfSome, IsSome, IsSomeAnd, Option, length, None}
use Rattle.std.specs.Option.{option_map_or}
use Rattle.std.specs.declared.cmp.Ordering.TheVariants.{Less}
use Rattle.small_types.specs.declared.limits.TheConstants.{APPLICATION_LIMIT, FILE_COUNT_LIMIT, LEASE_LIMIT, LOCAL_COUNT_LIMIT, LOCAL_NAME_LIMIT, NUMBER_LIMIT, VIEW_LIMIT}
use Rattle.small_types.specs.declared.target.Target.{Target}
use Rattle.small_types.specs.Name.{IsBelowPre, IsName}
use Rattle.identity.specs.declared.key.Key.{Key}
use Rattle.identity.specs.declared.version.Version.{Version}
use Rattle.identity.specs.Printed.{text_cmp}
use Rattle.identity.specs.Version.{IsVersion}
use Rattle.manifests.specs.declared.facts.FileEntry.{FileEntry}
use Rattle.machine.specs.CheckRow.{heard_app, unheard_app}
use Rattle.machine.specs.Entries.{entry_of, with_entry}
use Rattle.machine.specs.Fields.{IsApplication, IsDeployment, IsShortKey, IsTarget}
use Rattle.machine.specs.Groups.{group_files, group_stands}
use Rattle.machine.specs.Installed.{installed_app}
use Rattle.machine.specs.LaunchRow.{started_app}
use Rattle.machine.specs.Leases.{lease_of, with_lease, without_lease}
use Rattle.machine.specs.RequireRow.{required}
use Rattle.machine.specs.RollbackRow.{rolled_back_app}
use Rattle.machine.specs.SkipRow.{skipped_app}
use Rattle.machine.specs.Views.{standing_entries}
use Rattle.store_state.specs.declared.change.Change.{Change}
use Rattle.store_state.specs.declared.change.Change.TheVariants.{Boot, Require, Install, Heard, Unheard, Skip, Rollback, Launch, Finish, Group, Put, Remove, Clean}
use Rattle.store_state.specs.declared.view.Content.{Content}
use Rattle.store_state.specs.declared.view.LocalFile.{LocalFile}
use Rattle.store_state.specs.declared.view.View.{View}
use Rattle.store_state.specs.Contents.{Brings}
use Rattle.store_state.specs.Dropped.{dropped, removable_in}
use Rattle.store_state.specs.Locals.{local_at, outside_locals, with_local, without_local}
use Rattle.store_state.specs.Rows.{current_at, current_row, current_row_at, current_version, listed_files, offer_at, previous_row_at, row_at, version_at, with_app, with_row}
use Rattle.store_state.specs.Tables.{Tables}

-- ---- views

-- a data file has a name within its limit
pub record IsLocal (file : LocalFile) : Type 0 where
  pub name : IsName file.name
  pub short : ¬ IsBelowPre file.name → length file.name ≤ LOCAL_NAME_LIMIT

-- what manifests can say, an address within its limits, and data files in order of their names, few
-- enough
pub record IsRow (view : View) : Type 0 where
  pub deployment : IsDeployment view.deployment
  pub application : IsApplication view.application
  pub base : IsTarget view.base
  pub order : AllPairs (λ (f g : LocalFile). text_cmp f.name g.name ≡ Less) view.locals
  pub locals : All IsLocal view.locals
  pub few : outside_locals view.locals ≤ LOCAL_COUNT_LIMIT

-- ---- changes

-- An install brings the next view, whose manifests could be read and in which no group stands yet,
-- and exactly the contents that the tables lack. No limit is exceeded.
pub record FitsInstall (old : Tables) (view : View) (contents : List Content) (provider : Target)
    (now : ℕ) : Type 0 where
  pub number : view.number ≡ old.next_view
  pub next : old.next_view < NUMBER_LIMIT
  pub moment : now ≤ NUMBER_LIMIT
  pub row : IsRow view
  pub groups : view.groups ≡ []
  pub has_provider : IsTarget provider
  pub brings : Brings old.contents (standing_entries view.groups view.application) contents
  pub application : entry_of view.deployment.identity.key old.apps ≡ None
      → length old.apps < APPLICATION_LIMIT
  pub views : length old.views < VIEW_LIMIT
  pub files : listed_files old.views + length view.application.files ≤ FILE_COUNT_LIMIT

-- What a check heard is of a key with a current view, and its versions and its moment are within
-- their limits.
pub record FitsHeard (old : Tables) (key : Key) (version : Version) (minimum : Option Version)
    (now : ℕ) : Type 0 where
  pub installed : IsSome (current_row key old)
  pub heard : IsVersion version
  pub least : IfSome minimum IsVersion
  pub moment : now ≤ NUMBER_LIMIT

-- A skip names the place of an application with a current view, to which a version is offered.
pub record FitsSkip (old : Tables) (app : ℕ) : Type 0 where
  pub installed : IsSome (current_at app old.apps)
  pub offered : IsSome (offer_at app old.apps)

-- A rollback names the place of an application with a current view and a previous one.
pub record FitsRollback (old : Tables) (app : ℕ) : Type 0 where
  pub installed : IsSome (current_row_at app old)
  pub earlier : IsSome (previous_row_at app old)

-- The application of the view lists files of the group, and the group does not stand in the view.
-- The contents are exactly those that the tables lack of these files.
pub record MayGrow (old : Tables) (group : List ℕ) (contents : List Content) (view : View)
    : Type 0 where
  pub listed : ◌≢◌ {A = List FileEntry} (group_files group view.application) []
  pub absent : group_stands group view.groups ≡ false
  pub brings : Brings old.contents (group_files group view.application) contents

-- A group comes to a view that is kept.
abbrev pub FitsGroup : Tables → ℕ → List ℕ → List Content → Type 0
FitsGroup old number group contents =
    IsSomeAnd (row_at number old.views) (MayGrow old group contents)

-- A data file has a name within its limit, and the view has few enough of them then. It may be one
-- that the view has, and it may be below `.pre`.
pub record MayPut (file : LocalFile) (view : View) : Type 0 where
  pub local : IsLocal file
  pub few : outside_locals (with_local file view).locals ≤ LOCAL_COUNT_LIMIT

-- A data file is put into a view that is kept.
abbrev pub FitsPut : Tables → ℕ → LocalFile → Type 0
FitsPut old number file = IsSomeAnd (row_at number old.views) (MayPut file)

-- A launch names the place of an application with a current view. There is room for one more lease,
-- and a number is left.
pub record FitsLaunch (old : Tables) (app : ℕ) : Type 0 where
  pub installed : IsSome (current_at app old.apps)
  pub room : length old.leases < LEASE_LIMIT
  pub next : old.next_lease < NUMBER_LIMIT

-- A change may be made: no limit is exceeded, and a new application finds fewer than may be. That a
-- part of a key is empty is no hindrance. The lease that a finish names is there, and the data file
-- that is removed. A clean always fits.
abbrev pub Fits : Tables → Change → Type 0
Fits old (Boot boot) = boot ≤ NUMBER_LIMIT
Fits old (Require key version) =
    IsShortKey key × IsVersion version
    × (entry_of key old.apps ≡ None → length old.apps < APPLICATION_LIMIT)
Fits old (Install view contents provider now) = FitsInstall old view contents provider now
Fits old (Heard key version minimum now) = FitsHeard old key version minimum now
Fits old (Unheard key) = IsSome (current_row key old)
Fits old (Skip app) = FitsSkip old app
Fits old (Rollback app) = FitsRollback old app
Fits old (Launch app) = FitsLaunch old app
Fits old (Finish lease) = IsSome (lease_of lease old.leases)
Fits old (Group view group contents) = FitsGroup old view group contents
Fits old (Put view file) = FitsPut old view file
Fits old (Remove view name) = IsSome (local_at view name old)
Fits old Clean = Unit {0}

-- The tables make it by their own call. A launch, a finish and a clean are made by calls of their
-- own.
abbrev pub IsPlain : Change → Type 0
IsPlain (Boot boot) = Unit {0}
IsPlain (Require key version) = Unit {0}
IsPlain (Install view contents provider now) = Unit {0}
IsPlain (Heard key version minimum now) = Unit {0}
IsPlain (Unheard key) = Unit {0}
IsPlain (Skip app) = Unit {0}
IsPlain (Rollback app) = Unit {0}
IsPlain (Launch app) = ⊥
IsPlain (Finish lease) = ⊥
IsPlain (Group view group contents) = Unit {0}
IsPlain (Put view file) = Unit {0}
IsPlain (Remove view name) = Unit {0}
IsPlain Clean = ⊥

-- what takes memory: an entry that is made, an install, a group, a data file, and the list of the
-- views that a clean takes
abbrev pub TakesMemory : Tables → Change → Type 0
TakesMemory old (Boot boot) = ⊥
TakesMemory old (Require key version) = entry_of key old.apps ≡ None
TakesMemory old (Install view contents provider now) = Unit {0}
TakesMemory old (Heard key version minimum now) = ⊥
TakesMemory old (Unheard key) = ⊥
TakesMemory old (Skip app) = ⊥
TakesMemory old (Rollback app) = ⊥
TakesMemory old (Launch app) = ⊥
TakesMemory old (Finish lease) = ⊥
TakesMemory old (Group view group contents) = Unit {0}
TakesMemory old (Put view file) = Unit {0}
TakesMemory old (Remove view name) = ⊥
TakesMemory old Clean = Unit {0}

-- what takes memory before it is made, where it is tested whether it fits: an install, and a group
abbrev pub TestsWithMemory : Change → Type 0
TestsWithMemory (Boot boot) = ⊥
TestsWithMemory (Require key version) = ⊥
TestsWithMemory (Install view contents provider now) = Unit {0}
TestsWithMemory (Heard key version minimum now) = ⊥
TestsWithMemory (Unheard key) = ⊥
TestsWithMemory (Skip app) = ⊥
TestsWithMemory (Rollback app) = ⊥
TestsWithMemory (Launch app) = ⊥
TestsWithMemory (Finish lease) = ⊥
TestsWithMemory (Group view group contents) = Unit {0}
TestsWithMemory (Put view file) = ⊥
TestsWithMemory (Remove view name) = ⊥
TestsWithMemory Clean = ⊥

-- the tables with one more lease, on that view
abbrev pub leased : ℕ → Tables → Tables
leased view old = record old {
  next_lease = old.next_lease + 1;
  leases = with_lease old.next_lease view old.leases;
}

-- the view with one more group, behind those that stand
abbrev pub grown : List ℕ → View → View
grown group view = record view { groups = view.groups ++ group ∷ [] }

-- What it leaves. Another boot number ends all leases. What was heard is compared with the version
-- that is current for the key, a rollback excludes the version that is current for the application
-- at the place, and a launch leases the view that is current for it. A clean takes the views that
-- are not in use. A change that does not fit leaves the tables as they were where it names nothing.
abbrev pub effect : Change → Tables → Tables
effect (Boot boot) old =
    record old { boot = boot; leases = if old.boot == boot then old.leases else [] }
effect (Require key version) old = record old { apps = required key version old.apps }
effect (Install view contents provider now) old = record old {
  next_view = old.next_view + 1;
  views = old.views ++ view ∷ [];
  apps = with_entry view.deployment.identity.key
      (installed_app view.number view.deployment provider now) old.apps;
  contents = old.contents ++ contents;
}
effect (Heard key version minimum now) old = option_map_or
    (λ have. record old { apps = with_entry key (heard_app have version minimum now) old.apps })
    (current_version key old) old
effect (Unheard key) old = record old { apps = with_entry key unheard_app old.apps }
effect (Skip app) old = record old { apps = with_app app skipped_app old.apps }
effect (Rollback app) old = option_map_or
    (λ have. record old { apps = with_app app (rolled_back_app have) old.apps })
    (version_at app old) old
effect (Launch app) old = option_map_or
    (λ view. record (leased view old) { apps = with_app app started_app old.apps })
    (current_at app old.apps) old
effect (Finish lease) old = record old { leases = without_lease lease old.leases }
effect (Group view group contents) old = record old {
  views = with_row view (grown group) old.views;
  contents = old.contents ++ contents;
}
effect (Put view file) old = record old { views = with_row view (with_local file) old.views }
effect (Remove view name) old = record old { views = with_row view (without_local name) old.views }
effect Clean old = dropped (removable_in old) old
