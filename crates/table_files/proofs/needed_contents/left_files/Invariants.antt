use Rattle.std.proofs.Common.{◌≡◌, ◌++◌, drop, map}
use Rattle.machine.specs.Blocks.{standing_files}
use Rattle.store_state.specs.Dropped.{without_rows}
use Rattle.store_state.specs.Tables.{bare_row}
use Rattle.table_files.proofs.needed_contents.left_files.Given as goal

abbrev pub invariant-loop-view : goal.invariant-loop-view
invariant-loop-view l =
    map (λ f. f.now) l.files.items
    ++ standing_files (map bare_row (without_rows l.numbers (drop l.view-index l.views)))
    ≡ standing_files (map bare_row (without_rows l.numbers l.views))
