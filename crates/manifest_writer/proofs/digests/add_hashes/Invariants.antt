use Rattle.std.proofs.Common.{◌≡◌, ◌++◌, map, take}
use Rattle.manifest_tree.specs.Tree.{tree_of}
use Rattle.manifest_writer.specs.Elements.{hash_tree}
use Rattle.manifest_writer.proofs.digests.add_hashes.Given as goal

abbrev pub invariant-loop-digest : goal.invariant-loop-digest
invariant-loop-digest l = map tree_of l.children.items ≡ map tree_of l.initial.children.items ++ map hash_tree (take l.digest-index l.digests)
