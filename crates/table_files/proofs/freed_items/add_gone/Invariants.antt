use Rattle.std.proofs.Common.{◌≡◌, ◌++◌, drop}
use Rattle.table_files.specs.Freed.{rows_among}
use Rattle.table_files.specs.Held.{held_for_views}
use Rattle.table_files.proofs.freed_items.add_gone.Given as goal

abbrev pub invariant-loop-view : goal.invariant-loop-view
invariant-loop-view l =
    l.items.items ++ held_for_views (rows_among l.numbers (drop l.view-index l.views))
    ≡ l.initial.items.items ++ held_for_views (rows_among l.numbers l.views)
