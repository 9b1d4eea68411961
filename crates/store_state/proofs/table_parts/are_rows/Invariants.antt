use Rattle.std.proofs.Common.{All, take}
use Rattle.store_state.specs.Change.{IsRow}
use Rattle.store_state.proofs.table_parts.are_rows.Given as goal

abbrev pub invariant-loop-view : goal.invariant-loop-view
invariant-loop-view l = All IsRow (take l.view-index l.views)
