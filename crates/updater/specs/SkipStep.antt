-- What skipping the offer of an application comes to.
use Rattle.std.specs.Prelude.{◌≡◌, ◌≢◌, ℕ, true, false, [], slice_get, Option, Some, None}
use Rattle.small_types.specs.declared.room.Room.{Room}
use Rattle.identity.specs.declared.key.Key.{Key}
use Rattle.identity.specs.declared.version.Version.{Version}
use Rattle.machine.specs.declared.app.AppState.{AppState}
use Rattle.machine.specs.declared.command.Command.TheVariants as command
use Rattle.machine.specs.declared.due.Due.{Due}
use Rattle.machine.specs.declared.due.Due.TheVariants.{Required}
use Rattle.machine.specs.Entries.{entry_of}
use Rattle.machine.specs.Machine.{refusals}
use Rattle.machine.specs.Rows.{PassesAll}
use Rattle.store_state.specs.declared.change.Change.TheVariants.{Skip}
use Rattle.store_state.specs.Change.{Fits}
use Rattle.store_state.specs.Tables.{Tables, table_shape}
use Rattle.updater.specs.declared.skip_step.SkipStep.{SkipStep}

-- the minimum that stands before a start
abbrev pub minimum_in : Due → Option Version
minimum_in (Required minimum) = Some minimum
minimum_in _ = None

-- The application at the place is that of the key, and no refusal holds. The version is offered to
-- it, and is skipped already or not.
pub record IsSkipStep (key : Key) (now : ℕ) (tables : Tables) (skipping : SkipStep) : Type 0 where
  pub passes : (room : Room)
      → PassesAll (refusals now [] (table_shape room tables) (command.Skip key))
  pub app : slice_get tables.apps skipping.app ≡ entry_of key tables.apps
  pub fits : Fits tables (Skip skipping.app)
  pub known : AppState
  pub entry : entry_of key tables.apps ≡ Some known
  pub offered : known.offer ≡ Some skipping.offer
  pub stands : skipping.stands ≡ true → known.skipped ≡ known.offer
  pub other : skipping.stands ≡ false → known.skipped ≢ known.offer
