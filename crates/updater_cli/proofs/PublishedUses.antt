-- What a run keeps of leases.
use Rattle.std.specs.Prelude.{◌≡◌, ◌<◌, ◌≤◌, ℕ, List, Option, Some}
use Rattle.machine.specs.declared.event.Event.{Event}
use Rattle.machine.specs.declared.lease.Lease.{Lease}
use Rattle.machine.specs.declared.reply.Reply.{Reply}
use Rattle.machine.specs.Leases.{lease_of}
use Rattle.machine.specs.Machine.{Run}
use Rattle.machine.specs.Store.{Session, Store}

-- A lease whose number was given before lived before, on the same view.
pub record KeepsUses (old new : Store) : Type 0 where
  pub next : old.next_lease ≤ new.next_lease
  pub leases : (number : ℕ) (lease : Lease) → number < old.next_lease
      → lease_of number new.leases ≡ Some lease → lease_of number old.leases ≡ Some lease

abbrev pub RunsKeepUses : Type 0
RunsKeepUses = (now : ℕ) (old : Session) (events : List Event) (replies : List (Option Reply))
    (new : Session) → Run now old events replies new → KeepsUses old.store new.store
