-- Leases in the tables: which views they name, and when none is given or ended.
use Rattle.std.specs.Prelude.{◌≡◌, ◌<◌, ◌≤◌, ℕ, List, Any, None, length}
use Rattle.small_types.specs.declared.limits.TheConstants.{LEASE_LIMIT, NUMBER_LIMIT}
use Rattle.machine.specs.declared.lease.Lease.{Lease}
use Rattle.machine.specs.Leases.{lease_of}
use Rattle.store_state.specs.Tables.{Tables}
use Rattle.leases.specs.declared.fault.LeaseFault.{LeaseFault}
use Rattle.leases.specs.declared.fault.LeaseFault.TheVariants.{LeasesFull, Spent, NoLease}

-- a lease names the view
abbrev pub IsLeased : ℕ → List Lease → Type 0
IsLeased view leases = Any (λ lease. lease.view ≡ view) leases

-- there is room for one more lease, and a number
pub record HasRoom (tables : Tables) : Type 0 where
  pub few : length tables.leases < LEASE_LIMIT
  pub next : tables.next_lease < NUMBER_LIMIT

-- why none is given: there are as many as may be, and else no number is left
abbrev pub IsRefused : Tables → LeaseFault → Type 0
IsRefused tables LeasesFull = LEASE_LIMIT ≤ length tables.leases
IsRefused tables (Spent next) =
    (length tables.leases < LEASE_LIMIT) × (tables.next_lease ≡ NUMBER_LIMIT)
    × (next ≡ tables.next_lease)
IsRefused tables NoLease = ⊥

-- why none is ended: none has the number
abbrev pub IsMissing : ℕ → Tables → LeaseFault → Type 0
IsMissing lease tables LeasesFull = ⊥
IsMissing lease tables (Spent next) = ⊥
IsMissing lease tables NoLease = lease_of lease tables.leases ≡ None
