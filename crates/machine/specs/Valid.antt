-- A store within its order and its limits, whose files and whose tables have room.
use Rattle.std.specs.Prelude.{◌≡◌, ◌≢◌, ◌<◌, ◌≤◌, ℕ, List, All, AllPairs, Any, Contains, length, map, sum_by, count_by, not, Some, IfSome, IsSome, IsSomeAnd}
use Rattle.std.specs.declared.cmp.Ordering.TheVariants.{Less}
use Rattle.small_types.specs.declared.limits.TheConstants.{APPLICATION_LIMIT, BLOCK_LIMIT, FILE_COUNT_LIMIT, LEASE_LIMIT, LOCAL_COUNT_LIMIT, LOCAL_NAME_LIMIT, NAME_LIMIT, NUMBER_LIMIT, VIEW_LIMIT}
use Rattle.small_types.specs.Name.{IsBelowPre, IsName}
use Rattle.identity.specs.declared.key.Key.{Key}
use Rattle.identity.specs.Printed.{text_cmp}
use Rattle.identity.specs.Version.{IsVersion}
use Rattle.manifests.specs.Applications.{is_below_pre}
use Rattle.machine.specs.declared.app.AppState.{AppState}
use Rattle.machine.specs.Blocks.{used_blocks}
use Rattle.machine.specs.Entries.{AreInOrder, entry_of}
use Rattle.machine.specs.Fields.{IsApplication, IsDeployment, IsShort, IsShortKey, IsTarget}
use Rattle.machine.specs.Shape.{bare_view}
use Rattle.machine.specs.Store.{Store}
use Rattle.machine.specs.Views.{DataFile, View, key_of, standing_entries}
use Rattle.machine.specs.Weight.{IsLight, weight_of}

-- ---- views

-- A name within its limit. Its bytes have no limit of their own: the room of the store is theirs.
pub record IsDataFile (file : DataFile) : Type 0 where
  pub name : IsName file.name
  pub short : ¬ IsBelowPre file.name → length file.name ≤ LOCAL_NAME_LIMIT

-- Manifests that can be read, and texts within their limits. The program files are exactly the
-- required ones and those of the groups that stand, each once, in the manifest's order; the data
-- files are in order of their names.
pub record IsView (view : View) : Type 0 where
  pub deployment : IsDeployment view.deployment
  pub application : IsApplication view.application
  pub base : IsTarget view.base
  pub groups : All (IsShort NAME_LIMIT) view.groups
  pub files : map (λ file. file.entry) view.program_files
      ≡ standing_entries view.groups view.application
  pub data_order : AllPairs (λ (f g : DataFile). text_cmp f.name g.name ≡ Less) view.data_files
  pub data_files : All IsDataFile view.data_files
  pub few_data : count_by (λ file. not (is_below_pre file.name)) view.data_files ≤ LOCAL_COUNT_LIMIT

-- ---- applications

-- a kept view of that key has the number
abbrev pub IsViewOf : List View → Key → ℕ → Type 0
IsViewOf views key number = Any (λ view. (view.number ≡ number) × (key_of view ≡ key)) views

-- Its views are kept and its own. A previous one stands only beside a current one, and is another.
-- An application with a current view has a provider.
pub record IsApp (views : List View) (app : AppState) : Type 0 where
  pub key : IsShortKey app.key
  pub provider : IfSome app.provider IsTarget
  pub current : IfSome app.current (IsViewOf views app.key)
  pub previous : IfSome app.previous (IsViewOf views app.key)
  pub minimum : IfSome app.minimum IsVersion
  pub offer : IfSome app.offer IsVersion
  pub skipped : IfSome app.skipped IsVersion
  pub excluded : IfSome app.excluded IsVersion
  pub last_check : IfSome app.last_check (λ moment. moment ≤ NUMBER_LIMIT)
  pub beside : IsSome app.previous → IsSome app.current
  pub other : (number : ℕ) → app.current ≡ Some number → app.previous ≢ Some number
  pub provided : IsSome app.current → IsSome app.provider

-- the key has an entry with a current view
abbrev pub IsInstalled : List AppState → Key → Type 0
IsInstalled apps key = IsSomeAnd (entry_of key apps) (λ app. IsSome app.current)

-- ---- the store

-- numbers that rise, and all are below the next one
pub record AreNumbers (next : ℕ) (numbers : List ℕ) : Type 0 where
  pub rising : AllPairs (λ (m n : ℕ). m < n) numbers
  pub below : All (λ n. n < next) numbers
  pub limit : next ≤ NUMBER_LIMIT

-- within its order and its limits, whatever room its files take
pub record Ordered (store : Store) : Type 0 where
  -- its own numbers
  pub some_blocks : 1 ≤ store.room.blocks
  pub few_blocks : store.room.blocks ≤ BLOCK_LIMIT
  pub boot : store.boot ≤ NUMBER_LIMIT
  -- leases, each of a kept view
  pub lease_numbers : AreNumbers store.next_lease (map (λ lease. lease.number) store.leases)
  pub few_leases : length store.leases ≤ LEASE_LIMIT
  pub leased : All (λ lease. Contains (map (λ view. view.number) store.views) lease.view)
      store.leases
  -- views, each of an application with a current one
  pub view_numbers : AreNumbers store.next_view (map (λ view. view.number) store.views)
  pub few_views : length store.views ≤ VIEW_LIMIT
  pub few_files : sum_by (λ view. length view.application.files) store.views ≤ FILE_COUNT_LIMIT
  pub views : All IsView store.views
  pub installed : All (λ view. IsInstalled store.apps (key_of view)) store.views
  -- applications
  pub order : AreInOrder store.apps
  pub few_apps : length store.apps ≤ APPLICATION_LIMIT
  pub apps : All (IsApp store.views) store.apps

-- and its files have room, and so have its tables
pub record Valid (store : Store) : Type 0 where
  pub ordered : Ordered store
  pub room : used_blocks (map bare_view store.views) ≤ store.room.blocks
  pub light : IsLight store.room (weight_of (map bare_view store.views) store.apps)
