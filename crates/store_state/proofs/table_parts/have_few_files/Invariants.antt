use Rattle.std.proofs.Common.{◌≡◌, ◌+◌, drop}
use Rattle.small_types.specs.declared.limits.TheConstants.{FILE_COUNT_LIMIT}
use Rattle.store_state.specs.Rows.{listed_files}
use Rattle.store_state.proofs.table_parts.have_few_files.Given as goal

-- the room that is left, and what is still to be counted
abbrev pub invariant-loop-view : goal.invariant-loop-view
invariant-loop-view l =
    l.room + listed_files l.views ≡ FILE_COUNT_LIMIT + listed_files (drop l.view-index l.views)
