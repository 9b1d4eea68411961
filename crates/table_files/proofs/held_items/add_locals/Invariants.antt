use Rattle.std.proofs.Common.{◌≡◌, ◌++◌, drop}
use Rattle.table_files.specs.Held.{held_for_locals}
use Rattle.table_files.proofs.held_items.add_locals.Given as goal

abbrev pub invariant-loop-file : goal.invariant-loop-file
invariant-loop-file l =
    l.items.items ++ held_for_locals (drop l.file-index l.files)
    ≡ l.initial.items.items ++ held_for_locals l.files
