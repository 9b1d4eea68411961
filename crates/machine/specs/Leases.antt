-- Leases: which view each of them keeps in use.
use Rattle.std.specs.Prelude.{ℕ, ◌==◌, not, List, [], ◌∷◌, ◌++◌, filter, find, Option, option_and_then}
use Rattle.machine.specs.declared.lease.Lease.{Lease}
use Rattle.machine.specs.Current.{bare_view_at, view_at}
use Rattle.machine.specs.Shape.{BareView, Shape}
use Rattle.machine.specs.Store.{Store}
use Rattle.machine.specs.Views.{View}

-- the lease of that number
abbrev pub lease_of : ℕ → List Lease → Option Lease
lease_of number leases = find (λ lease. lease.number == number) leases

-- the view that it names, in a store, and in one without the bytes of its files
abbrev pub leased_view : ℕ → Store → Option View
leased_view number store =
    option_and_then (λ lease. view_at lease.view store.views) (lease_of number store.leases)

abbrev pub leased_bare : ℕ → Shape → Option BareView
leased_bare number shape =
    option_and_then (λ lease. bare_view_at lease.view shape.views) (lease_of number shape.leases)

-- the leases with a new one behind them
abbrev pub with_lease : ℕ → ℕ → List Lease → List Lease
with_lease number view leases = leases ++ record { number = number; view = view } ∷ []

-- the leases without that of the number
abbrev pub without_lease : ℕ → List Lease → List Lease
without_lease number leases = filter (λ lease. not (lease.number == number)) leases
