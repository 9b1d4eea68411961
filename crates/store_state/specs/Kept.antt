-- What holds of the tables that the code has.
use Rattle.std.specs.Prelude.{◌≡◌, ◌<◌, ◌≤◌, ℕ, List, All, AllPairs, length, map}
use Rattle.small_types.specs.declared.limits.TheConstants.{APPLICATION_LIMIT, FILE_COUNT_LIMIT, LEASE_LIMIT, NUMBER_LIMIT, VIEW_LIMIT}
use Rattle.identity.specs.Key.{key_text}
use Rattle.machine.specs.declared.app.AppState.{AppState}
use Rattle.machine.specs.Blocks.{standing_files}
use Rattle.machine.specs.Entries.{AreInOrder}
use Rattle.machine.specs.Valid.{AreNumbers}
use Rattle.store_state.specs.Change.{IsRow}
use Rattle.store_state.specs.Contents.{AreContentsOf}
use Rattle.store_state.specs.Rows.{listed_files}
use Rattle.store_state.specs.Tables.{Tables, bare_row}

-- Applications stand in their order, and views and leases in that of their numbers, which are below
-- the next ones. There are few enough applications, views and leases, and views list few enough
-- files. Each view is what an install could bring: its manifests could be read, and its data files
-- are in order and few enough. The contents are those of the program files that stand in views.
pub record AreTables (tables : Tables) : Type 0 where
  pub order : AreInOrder tables.apps
  pub few_apps : length tables.apps ≤ APPLICATION_LIMIT
  pub rising : AllPairs (λ (m n : ℕ). m < n) (map (λ view. view.number) tables.views)
  pub below : All (λ number. number < tables.next_view) (map (λ view. view.number) tables.views)
  pub limit : tables.next_view ≤ NUMBER_LIMIT
  pub few_views : length tables.views ≤ VIEW_LIMIT
  pub few_files : listed_files tables.views ≤ FILE_COUNT_LIMIT
  pub lease_numbers : AreNumbers tables.next_lease (map (λ lease. lease.number) tables.leases)
  pub few_leases : length tables.leases ≤ LEASE_LIMIT
  pub rows : All IsRow tables.views
  pub contents : AreContentsOf (standing_files (map bare_row tables.views)) tables.contents

-- the printed keys of applications, which stand in their order
abbrev pub AreKept : List (List ℕ) → List AppState → Type 0
AreKept keys apps = (keys ≡ map (λ app. key_text app.key) apps) × AreInOrder apps
