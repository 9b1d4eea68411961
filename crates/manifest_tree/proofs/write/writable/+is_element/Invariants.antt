use Rattle.std.proofs.Common.{◌≡◌, suc, drop}
use Rattle.std.specs.Prelude.{map}
use Rattle.manifest_tree.specs.Tree.{trees, tree_of}
use Rattle.manifest_tree.specs.WrittenText.{are_elements}
use Rattle.manifest_tree.proofs.write.writable.+is_element.Given as goal

abbrev pub invariant-loop-child : goal.invariant-loop-child
invariant-loop-child l = are_elements (suc l.level) (trees (map tree_of (drop l.child-index l.child-items))) ≡ are_elements (suc l.level) (trees (map tree_of l.child-items))
