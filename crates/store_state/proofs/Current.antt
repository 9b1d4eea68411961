-- The current view and a leased one, without the bytes of their data files.
use Rattle.std.proofs.Common.{◌≡◌, ◌∙◌, refl, ap, ℕ, Bool, true, false, cond, List, [], ◌∷◌, map, Option, Some, None, eqb}
use Rattle.std.specs.Prelude.{option_and_then, option_map}
use Rattle.small_types.specs.declared.room.Room.{Room}
use Rattle.identity.specs.declared.key.Key.{Key}
use Rattle.machine.specs.declared.lease.Lease.{Lease}
use Rattle.machine.specs.Current.{bare_view_at, current_bare, current_of}
use Rattle.machine.specs.Leases.{lease_of, leased_bare}
use Rattle.machine.specs.Shape.{BareView}
use Rattle.store_state.specs.declared.view.View.{View}
use Rattle.store_state.specs.Rows.{current_row, leased_row, row_at}
use Rattle.store_state.specs.Tables.{Tables, bare_row, table_shape}

found_bare : (b : Bool) (view : View) (rest : Option View)
    → option_map bare_row (cond b (Some view) rest) ≡ cond b (Some (bare_row view))
    (option_map bare_row rest)
found_bare true view rest = refl
found_bare false view rest = refl

pub bare_at : (number : ℕ) (views : List View)
    → option_map bare_row (row_at number views) ≡ bare_view_at number (map bare_row views)
bare_at number [] = refl
bare_at number (view ∷ views) =
    found_bare (eqb view.number number) view (row_at number views)
    ∙ ap (λ (rest : Option BareView). cond (eqb view.number number) (Some (bare_row view)) rest)
    (bare_at number views)

-- the view of a number, where there is one
pub bare_then : (number : Option ℕ) (views : List View)
    → option_map bare_row (option_and_then (λ (n : ℕ). row_at n views) number) ≡ option_and_then
    (λ (n : ℕ). bare_view_at n (map bare_row views)) number
bare_then None views = refl
bare_then (Some number) views = bare_at number views

pub bare_current : (key : Key) (tables : Tables) (room : Room)
    → option_map bare_row (current_row key tables) ≡ current_bare key (table_shape room tables)
bare_current key tables room = bare_then (current_of key tables.apps) tables.views

-- ---- the view of a lease

bare_by : (lease : Option Lease) (views : List View)
    → option_map bare_row (option_and_then (λ (l : Lease). row_at l.view views) lease)
    ≡ option_and_then (λ (l : Lease). bare_view_at l.view (map bare_row views)) lease
bare_by None views = refl
bare_by (Some lease) views = bare_at lease.view views

pub bare_leased : (number : ℕ) (tables : Tables) (room : Room)
    → option_map bare_row (leased_row number tables)
    ≡ leased_bare number (table_shape room tables)
bare_leased number tables room = bare_by (lease_of number tables.leases) tables.views
