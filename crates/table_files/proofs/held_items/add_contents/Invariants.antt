use Rattle.std.proofs.Common.{◌≡◌, ◌++◌, drop}
use Rattle.table_files.specs.Held.{held_for_contents}
use Rattle.table_files.proofs.held_items.add_contents.Given as goal

abbrev pub invariant-loop-content : goal.invariant-loop-content
invariant-loop-content l =
    l.items.items ++ held_for_contents (drop l.content-index l.contents)
    ≡ l.initial.items.items ++ held_for_contents l.contents
