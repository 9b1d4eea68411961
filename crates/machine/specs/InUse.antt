-- Which views are in use: those that are current, previous or leased.
use Rattle.std.specs.Prelude.{◌≡◌, ◌⊎◌, ◌==◌, ◌||◌, ℕ, Bool, false, List, Any, Option, Some, None}
use Rattle.std.specs.List.{list_any}
use Rattle.machine.specs.declared.app.AppState.{AppState}
use Rattle.machine.specs.declared.lease.Lease.{Lease}

-- the view of that number is the current or the previous one of an application, or a lease is on it
abbrev pub IsInUse : ℕ → List AppState → List Lease → Type 0
IsInUse number apps leases =
    Any (λ app. (app.current ≡ Some number) ⊎ (app.previous ≡ Some number)) apps
    ⊎ Any (λ lease. lease.view ≡ number) leases

-- ---- as a test

abbrev pub is_number : ℕ → Option ℕ → Bool
is_number number None = false
is_number number (Some other) = other == number

abbrev pub is_of_app : ℕ → AppState → Bool
is_of_app number app = is_number number app.current || is_number number app.previous

-- true exactly where it is in use
abbrev pub is_in_use : ℕ → List AppState → List Lease → Bool
is_in_use number apps leases =
    list_any (is_of_app number) apps || list_any (λ lease. lease.view == number) leases
