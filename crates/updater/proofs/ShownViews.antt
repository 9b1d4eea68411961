-- The views that are current and those that are leased, in tables and in the store that they show.
use Rattle.std.proofs.Common.{◌≡◌, ◌∙◌, ℕ, ◌==◌, List, map, Option, Some, None, IsSome, refl, sym, ap, subst}
use Rattle.std.specs.Prelude.{option_and_then, option_map}
use Rattle.small_types.specs.declared.room.Room.{Room}
use Rattle.identity.specs.declared.key.Key.{Key}
use Rattle.machine.specs.declared.app.AppState.{AppState}
use Rattle.machine.specs.declared.lease.Lease.{Lease}
use Rattle.machine.specs.Current.{bare_view_at, view_at}
use Rattle.machine.specs.Entries.{entry_of}
use Rattle.machine.specs.Leases.{lease_of, leased_bare, leased_view}
use Rattle.machine.specs.Previous.{previous_of, previous_view}
use Rattle.machine.specs.Shape.{BareView}
use Rattle.machine.specs.Store.{Store}
use Rattle.machine.specs.Valid.{IsApp, Ordered}
use Rattle.machine.specs.Views.{View as KeptView}
use Rattle.machine.proofs.FirstFound.{find-map, then_value, value_of}
use Rattle.machine.proofs.Leased.{entry_in, leased_kept, previous_kept}
use Rattle.machine.proofs.Members.{all_in}
use Rattle.store_state.specs.declared.view.Content.{Content}
use Rattle.store_state.specs.declared.view.View.{View}
use Rattle.store_state.specs.Rows.{leased_row, previous_row, row_at}
use Rattle.store_state.specs.Shows.{Shows, shown_view}
use Rattle.store_state.specs.Tables.{Tables, bare_row, table_shape}
use Rattle.install_plan.proofs.Currents.{current_stands, map_there}
use Rattle.updater.specs.RollbackStep.{KeepsPrevious}
use Rattle.updater.specs.Leased.{KeepsView}
use Rattle.updater.specs.LaunchStep.{KeepsCurrent}

-- ---- by number

view_shown : (room : Room) (image : List ℕ) (contents : List Content) (views : List View)
    (number : ℕ)
    → view_at number (map (shown_view room image contents) views)
    ≡ option_map (shown_view room image contents) (row_at number views)
view_shown room image contents views number =
    find-map (shown_view room image contents) (λ (view : KeptView). view.number == number) views

bare_shown : (views : List View) (number : ℕ)
    → bare_view_at number (map bare_row views) ≡ option_map bare_row (row_at number views)
bare_shown views number = find-map bare_row (λ (view : BareView). view.number == number) views

numbered_by : (room : Room) (image : List ℕ) (contents : List Content) (views : List View)
    (number : Option ℕ)
    → option_and_then (λ (n : ℕ). view_at n (map (shown_view room image contents) views)) number
    ≡ option_map (shown_view room image contents)
    (option_and_then (λ (n : ℕ). row_at n views) number)
numbered_by room image contents views None = refl
numbered_by room image contents views (Some number) = view_shown room image contents views number

leased_by : (room : Room) (image : List ℕ) (contents : List Content) (views : List View)
    (lease : Option Lease)
    → option_and_then (λ (l : Lease). view_at l.view (map (shown_view room image contents) views))
    lease
    ≡ option_map (shown_view room image contents)
    (option_and_then (λ (l : Lease). row_at l.view views) lease)
leased_by room image contents views None = refl
leased_by room image contents views (Some lease) = view_shown room image contents views lease.view

bare_by : (views : List View) (lease : Option Lease)
    → option_and_then (λ (l : Lease). bare_view_at l.view (map bare_row views)) lease
    ≡ option_map bare_row (option_and_then (λ (l : Lease). row_at l.view views) lease)
bare_by views None = refl
bare_by views (Some lease) = bare_shown views lease.view

-- ---- current and leased

pub leased_bare_row : (number : ℕ) (room : Room) (tables : Tables)
    → leased_bare number (table_shape room tables)
    ≡ option_map bare_row (leased_row number tables)
leased_bare_row number room tables = bare_by tables.views (lease_of number tables.leases)

module _ {room : Room} {tables : Tables} {image : List ℕ} {store : Store}
    (shows : Shows room tables image store) where
  pub leased_shown : (number : ℕ)
      → leased_view number store
      ≡ option_map (shown_view room image tables.contents) (leased_row number tables)
  leased_shown number =
      ap (leased_view number) shows.is
      ∙ leased_by room image tables.contents tables.views (lease_of number tables.leases)

  -- in a store in its order they are among the views
  pub keeps_current : (key : Key) → Ordered store → KeepsCurrent key tables
  keeps_current key was some = current_stands shows key was some

  pub keeps_previous : (key : Key) → Ordered store → KeepsPrevious key tables
  keeps_previous key was some =
      let named = value_of (previous_of key tables.apps) some in
      let app = then_value (λ (a : AppState). a.previous) (entry_of key store.apps) named.0
      (ap (λ (s : Store). previous_of key s.apps) shows.is ∙ named.1) in
      let is_app = all_in (IsApp store.views) store.apps app.0 was.apps
      (entry_in key store.apps app.0 app.1).0 in
      let kept = previous_kept store.views app.0 named.0 is_app app.2 in
      let found : previous_view key store ≡ Some kept.0 =
      ap (option_and_then (λ (n : ℕ). view_at n store.views))
      (ap (λ (s : Store). previous_of key s.apps) shows.is ∙ named.1) ∙ kept.1 in
      map_there (shown_view room image tables.contents) (previous_row key tables) kept.0
      (sym (ap (previous_view key) shows.is
      ∙ numbered_by room image tables.contents tables.views (previous_of key tables.apps)) ∙ found)

  pub keeps_view : (number : ℕ) → Ordered store → KeepsView number tables
  keeps_view number was some =
      let kept = leased_kept number store was
      (subst (λ (s : Store). IsSome (lease_of number s.leases)) (sym shows.is) some) in
      map_there (shown_view room image tables.contents) (leased_row number tables) kept.0
      (sym (leased_shown number) ∙ kept.1)
