-- launch KEY: a new lease on the application's current view.
use Rattle.std.specs.Prelude.{◌≡◌, ◌≤◌, ◌+◌, ℕ, Bool, false, List, [], ◌∷◌, length, Some, None}
use Rattle.small_types.specs.declared.limits.TheConstants.{LEASE_LIMIT, NUMBER_LIMIT}
use Rattle.identity.specs.declared.key.Key.{Key}
use Rattle.machine.specs.declared.app.AppState.{AppState}
use Rattle.machine.specs.declared.due.Due.TheVariants as found
use Rattle.machine.specs.declared.reply.Reply.{Reply}
use Rattle.machine.specs.declared.reply.Reply.TheVariants as says
use Rattle.machine.specs.Current.{current_of, current_view}
use Rattle.machine.specs.Due.{due}
use Rattle.machine.specs.Entries.{with_entry}
use Rattle.machine.specs.Leases.{with_lease}
use Rattle.machine.specs.Rows.{Refusal, exactly, exactly_with}
use Rattle.machine.specs.Shape.{Shape, shape_of}
use Rattle.machine.specs.Store.{Session, Store}
use Rattle.machine.specs.Views.{View, version_of}

-- Refused where no view is current; where its version is below the minimum, where a check is to
-- come first, or where a newer version is offered; and where no lease is left.
abbrev pub launch_refusals : Key → ℕ → Shape → List (Refusal Reply Session)
launch_refusals key now shape =
    exactly (current_of key shape.apps ≡ None) says.NotInstalled
    ∷ exactly_with (λ minimum. due key shape now
    ≡ Some (found.Required minimum)) (λ minimum. says.Required minimum)
    ∷ exactly (due key shape now ≡ Some found.CheckFirst) says.CheckFirst
    ∷ exactly_with (λ version. due key shape now
    ≡ Some (found.Offered version)) (λ version. says.Offered version)
    ∷ exactly (LEASE_LIMIT ≤ length shape.leases) says.LeasesFull
    ∷ exactly (shape.next_lease ≡ NUMBER_LIMIT) (says.Spent shape.next_lease)
    ∷ []

-- the application once it is started: a check counts for one start alone
abbrev pub started_app : AppState → AppState
started_app app = record app { checked = false }

-- the store with one more lease, on that view of the application
abbrev pub launched : Key → ℕ → Store → Store
launched key view old = record old {
  next_lease = old.next_lease + 1;
  leases = with_lease old.next_lease view old.leases;
  apps = with_entry key started_app old.apps;
}

-- the reply shows the lease, the version of the view, and whether the time for the next check has
-- come
pub record LaunchEffect (key : Key) (now : ℕ) (old : Session) (reply : Reply) (new : Session)
    : Type 0 where
  pub view : View
  pub current : current_view key old.store ≡ Some view
  pub check_due : Bool
  pub clear : due key (shape_of old) now ≡ Some (found.Clear check_due)
  pub replied : reply ≡ says.Lease old.store.next_lease (version_of view) check_due
  pub is : new ≡ record old { store = launched key view.number old.store }
