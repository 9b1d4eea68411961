use Rattle.std.proofs.Common.{◌≡◌, ◌++◌, drop, map}
use Rattle.machine.specs.Blocks.{standing_files}
use Rattle.machine.specs.Views.{content_key}
use Rattle.store_state.specs.Tables.{bare_row}
use Rattle.store_state.proofs.table_parts.all_standing_keys.Given as goal

abbrev pub invariant-loop-view : goal.invariant-loop-view
invariant-loop-view l =
    l.keys.items ++ map content_key (standing_files (map bare_row (drop l.view-index l.views)))
    ≡ map content_key (standing_files (map bare_row l.views))
