-- Which tables have an encoding: their texts and lists are within their limits, and their numbers
-- within their widths.
use Rattle.std.specs.Prelude.{◌<◌, ◌≤◌, ◌^◌, ℕ, All, IfSome, length}
use Rattle.small_types.specs.declared.limits.TheConstants.{APPLICATION_LIMIT, FILE_COUNT_LIMIT, LEASE_LIMIT, NAME_LIMIT, VIEW_LIMIT}
use Rattle.small_types.specs.Short.{IsShort, IsTarget}
use Rattle.identity.specs.Key.{IsShortKey}
use Rattle.identity.specs.Version.{IsVersion}
use Rattle.machine.specs.declared.app.AppState.{AppState}
use Rattle.machine.specs.declared.lease.Lease.{Lease}
use Rattle.store_state.specs.declared.view.View.{View}
use Rattle.store_state.specs.Tables.{Tables}
use Rattle.record_fields.specs.Values.{IsEncodableApplication, IsEncodableDeployment}
use Rattle.record_codec.specs.declared.numbers.TheConstants.{COUNT_LIMIT}
use Rattle.record_codec.specs.Values.{IsEncodableContent, IsEncodableLocal, IsEncodableView}

-- a number that eight bytes can say
abbrev pub IsWide : ℕ → Type 0
IsWide number = number < 2 ^ 64

pub record IsEncodableLease (lease : Lease) : Type 0 where
  pub number : IsWide lease.number
  pub view : IsWide lease.view

-- A part of the key may be empty, as any text.
pub record IsEncodableApp (app : AppState) : Type 0 where
  pub key : IsShortKey app.key
  pub provider : IfSome app.provider IsTarget
  pub current : IfSome app.current IsWide
  pub previous : IfSome app.previous IsWide
  pub minimum : IfSome app.minimum IsVersion
  pub offer : IfSome app.offer IsVersion
  pub skipped : IfSome app.skipped IsVersion
  pub excluded : IfSome app.excluded IsVersion
  pub last_check : IfSome app.last_check IsWide

-- No order is asked here, and no view needs to be there that is named. A view has as many groups
-- and data files as four bytes can count, and a file as many blocks, whatever its length.
pub record IsEncodableState (tables : Tables) : Type 0 where
  pub boot : IsWide tables.boot
  pub next_view : IsWide tables.next_view
  pub next_lease : IsWide tables.next_lease
  pub few_leases : length tables.leases ≤ LEASE_LIMIT
  pub leases : All IsEncodableLease tables.leases
  pub few_views : length tables.views ≤ VIEW_LIMIT
  pub views : All (IsEncodableView COUNT_LIMIT) tables.views
  pub few_apps : length tables.apps ≤ APPLICATION_LIMIT
  pub apps : All IsEncodableApp tables.apps
  pub few_contents : length tables.contents ≤ FILE_COUNT_LIMIT
  pub contents : All IsEncodableContent tables.contents

-- ---- whatever lists count

-- the fields of a view have encodings, however many groups and data files it has
pub record HasFields (view : View) : Type 0 where
  pub number : IsWide view.number
  pub deployment : IsEncodableDeployment view.deployment
  pub application : IsEncodableApplication view.application
  pub base : IsTarget view.base
  pub groups : All (IsShort NAME_LIMIT) view.groups
  pub locals : All IsEncodableLocal view.locals

-- the fields of tables do, however many of each they have
pub record HaveFields (tables : Tables) : Type 0 where
  pub boot : IsWide tables.boot
  pub next_view : IsWide tables.next_view
  pub next_lease : IsWide tables.next_lease
  pub leases : All IsEncodableLease tables.leases
  pub views : All HasFields tables.views
  pub apps : All IsEncodableApp tables.apps
  pub contents : All IsEncodableContent tables.contents
