use Rattle.std.proofs.Common.{◌≡◌, ◌++◌, drop}
use Rattle.table_files.specs.Held.{held_for_views}
use Rattle.table_files.proofs.held_items.add_views.Given as goal

abbrev pub invariant-loop-view : goal.invariant-loop-view
invariant-loop-view l =
    l.items.items ++ held_for_views (drop l.view-index l.views)
    ≡ l.initial.items.items ++ held_for_views l.views
