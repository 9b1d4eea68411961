-- What going back to the previous view of an application comes to.
use Rattle.std.specs.Prelude.{◌≡◌, ℕ, [], slice_get, Some, IsSome}
use Rattle.small_types.specs.declared.room.Room.{Room}
use Rattle.identity.specs.declared.key.Key.{Key}
use Rattle.identity.specs.declared.version.Version.{Version}
use Rattle.machine.specs.declared.command.Command.TheVariants as command
use Rattle.machine.specs.Current.{current_version}
use Rattle.machine.specs.Entries.{entry_of}
use Rattle.machine.specs.Machine.{refusals}
use Rattle.machine.specs.Previous.{previous_of, previous_version}
use Rattle.machine.specs.Rows.{PassesAll}
use Rattle.store_state.specs.declared.change.Change.TheVariants.{Rollback}
use Rattle.store_state.specs.Change.{Fits}
use Rattle.store_state.specs.Rows.{previous_row}
use Rattle.store_state.specs.Tables.{Tables, table_shape}
use Rattle.updater.specs.declared.rollback_step.RollbackStep.{RollbackStep}

-- the previous view of the application is among the views, as in each valid store
abbrev pub KeepsPrevious : Key → Tables → Type 0
KeepsPrevious key tables =
    IsSome (previous_of key tables.apps) → IsSome (previous_row key tables)

-- The application at the place is that of the key, and no refusal holds. A version is current, and
-- the one that is shown is previous.
pub record IsRollbackStep (key : Key) (tables : Tables) (going : RollbackStep) : Type 0 where
  pub passes : (now : ℕ) (room : Room)
      → PassesAll (refusals now [] (table_shape room tables) (command.Rollback key))
  pub app : slice_get tables.apps going.app ≡ entry_of key tables.apps
  pub fits : Fits tables (Rollback going.app)
  pub have : Version
  pub current : (room : Room) → current_version key (table_shape room tables) ≡ Some have
  pub previous : (room : Room)
      → previous_version key (table_shape room tables) ≡ Some going.version
