-- What starts, checks, skips and rollbacks leave of an entry, whose key stays.
use Rattle.machine.specs.declared.app.AppState.{AppState}
use Rattle.machine.specs.CheckRow.{heard_app, unheard_app}
use Rattle.machine.specs.LaunchRow.{started_app}
use Rattle.machine.specs.RollbackRow.{rolled_back_app}
use Rattle.machine.specs.SkipRow.{skipped_app}
use Rattle.store_state.specs.declared.note.Note.{Note}
use Rattle.store_state.specs.declared.note.Note.TheVariants.{Started, Heard, Unheard, Skipped, RolledBack}

abbrev pub noted : Note → AppState → AppState
noted Started = started_app
noted (Heard current version minimum now) = heard_app current version minimum now
noted Unheard = unheard_app
noted Skipped = skipped_app
noted (RolledBack current) = rolled_back_app current
