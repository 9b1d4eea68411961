-- What launching an application comes to.
use Rattle.std.specs.Prelude.{◌≡◌, ℕ, Bool, [], slice_get, Some, Result, Ok, Err, IsSome}
use Rattle.small_types.specs.declared.room.Room.{Room}
use Rattle.identity.specs.declared.key.Key.{Key}
use Rattle.machine.specs.declared.command.Command.TheVariants as command
use Rattle.machine.specs.declared.due.Due.{Due}
use Rattle.machine.specs.declared.due.Due.TheVariants.{Required, CheckFirst, Offered, Clear}
use Rattle.machine.specs.declared.reply.Reply.{Reply}
use Rattle.machine.specs.declared.reply.Reply.TheVariants as says
use Rattle.machine.specs.Current.{current_of}
use Rattle.machine.specs.Due.{due}
use Rattle.machine.specs.Entries.{entry_of}
use Rattle.machine.specs.Machine.{refusals}
use Rattle.machine.specs.Rows.{PassesAll}
use Rattle.store_state.specs.declared.change.Change.TheVariants.{Launch}
use Rattle.store_state.specs.declared.view.View.{View}
use Rattle.store_state.specs.Change.{Fits}
use Rattle.store_state.specs.Rows.{current_row}
use Rattle.store_state.specs.Tables.{Tables, table_shape}
use Rattle.leases.specs.declared.fault.LeaseFault.{LeaseFault}
use Rattle.leases.specs.declared.fault.LeaseFault.TheVariants.{LeasesFull, Spent, NoLease}
use Rattle.updater.specs.declared.launch_step.LaunchStep.{LaunchStep}

-- the current view of the application is among the views, as in each valid store
abbrev pub KeepsCurrent : Key → Tables → Type 0
KeepsCurrent key tables = IsSome (current_of key tables.apps) → IsSome (current_row key tables)

-- what stands before a start is the refusal; where nothing does, it is known whether a check is due
abbrev pub cleared : Due → Result Bool Reply
cleared (Required minimum) = Err (says.Required minimum)
cleared CheckFirst = Err says.CheckFirst
cleared (Offered version) = Err (says.Offered version)
cleared (Clear check_due) = Ok check_due

-- the refusal where no lease is given
abbrev pub lease_reply : LeaseFault → Reply
lease_reply LeasesFull = says.LeasesFull
lease_reply (Spent next) = says.Spent next
lease_reply NoLease = says.NoLease

-- The application at the place is that of the key, and no refusal holds. The lease has the next
-- number, and the version is that of the view which is current.
pub record IsLaunchStep (key : Key) (now : ℕ) (tables : Tables) (start : LaunchStep) : Type 0 where
  pub passes : (room : Room)
      → PassesAll (refusals now [] (table_shape room tables) (command.Launch key))
  pub app : slice_get tables.apps start.app ≡ entry_of key tables.apps
  pub fits : Fits tables (Launch start.app)
  pub lease : start.lease ≡ tables.next_lease
  pub row : View
  pub current : current_row key tables ≡ Some row
  pub version : start.version ≡ row.deployment.identity.version
  pub clear : (room : Room) → due key (table_shape room tables) now ≡ Some (Clear start.check_due)
