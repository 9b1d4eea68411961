use Rattle.std.proofs.Common.{◌≡◌, ◌++◌, map, take}
use Rattle.manifest_tree.specs.Tree.{tree_of}
use Rattle.manifest_writer.specs.Applications.{file_tree}
use Rattle.manifest_writer.proofs.files.add_files.Given as goal

abbrev pub invariant-loop-entry : goal.invariant-loop-entry
invariant-loop-entry l = map tree_of l.children.items ≡ map tree_of l.initial.children.items ++ map file_tree (take l.entry-index l.files)
