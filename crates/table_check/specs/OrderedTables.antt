-- What the tables of a store within its order and its limits have beside what all tables keep.
use Rattle.std.specs.Prelude.{◌≡◌, ◌≢◌, ◌≤◌, ℕ, List, All, Some, IfSome, IsSome, IsSomeAnd}
use Rattle.small_types.specs.declared.limits.TheConstants.{NAME_LIMIT, NUMBER_LIMIT}
use Rattle.identity.specs.declared.key.Key.{Key}
use Rattle.identity.specs.Version.{IsVersion}
use Rattle.machine.specs.declared.app.AppState.{AppState}
use Rattle.machine.specs.Fields.{IsShort, IsShortKey, IsTarget}
use Rattle.machine.specs.Valid.{IsInstalled}
use Rattle.store_state.specs.declared.view.View.{View}
use Rattle.store_state.specs.Rows.{row_at}
use Rattle.store_state.specs.Tables.{Tables}

-- a view of that key is kept under the number
abbrev pub IsRowOf : List View → Key → ℕ → Type 0
IsRowOf views key number =
    IsSomeAnd (row_at number views) (λ view. view.deployment.identity.key ≡ key)

-- Texts, versions and the last check are within their limits. The views are kept and its own. A
-- previous one stands only beside a current one, and is another. An application with a current view
-- has a provider.
pub record IsAppOf (views : List View) (app : AppState) : Type 0 where
  pub key : IsShortKey app.key
  pub provider : IfSome app.provider IsTarget
  pub current : IfSome app.current (IsRowOf views app.key)
  pub previous : IfSome app.previous (IsRowOf views app.key)
  pub minimum : IfSome app.minimum IsVersion
  pub offer : IfSome app.offer IsVersion
  pub skipped : IfSome app.skipped IsVersion
  pub excluded : IfSome app.excluded IsVersion
  pub last_check : IfSome app.last_check (λ moment. moment ≤ NUMBER_LIMIT)
  pub beside : IsSome app.previous → IsSome app.current
  pub other : (number : ℕ) → app.current ≡ Some number → app.previous ≢ Some number
  pub provided : IsSome app.current → IsSome app.provider

-- The groups that stand have names within their limit, and its application has a current view.
pub record IsInstalledRow (apps : List AppState) (view : View) : Type 0 where
  pub groups : All (IsShort NAME_LIMIT) view.groups
  pub installed : IsInstalled apps view.deployment.identity.key

-- The boot number is within its limit, each lease is of a kept view, each view is of an application
-- with a current one, and what is known of each application fits the views.
pub record AreOrderedTables (tables : Tables) : Type 0 where
  pub boot : tables.boot ≤ NUMBER_LIMIT
  pub leased : All (λ lease. IsSome (row_at lease.view tables.views)) tables.leases
  pub views : All (IsInstalledRow tables.apps) tables.views
  pub apps : All (IsAppOf tables.views) tables.apps
