use Rattle.std.proofs.Common.{◌≡◌, ◌++◌, drop, map}
use Rattle.machine.specs.ListRow.{list_row}
use Rattle.machine.specs.Store.{plain_room}
use Rattle.store_state.specs.Tables.{table_shape}
use Rattle.updater.proofs.rows.rows_of.Given as goal

-- the rows so far, and those of the applications that are left
abbrev pub invariant-loop-app : goal.invariant-loop-app
invariant-loop-app l =
    l.rows.items ++ map (list_row (table_shape (plain_room 0) l.state)) (drop l.app-index l.apps)
    ≡ map (list_row (table_shape (plain_room 0) l.state)) l.apps
