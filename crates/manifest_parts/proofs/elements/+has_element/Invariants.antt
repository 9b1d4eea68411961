use Rattle.std.proofs.Common.{◌≡◌, drop, map}
use Rattle.manifest_tree.specs.Tree.{trees, tree_of}
use Rattle.manifest_parts.specs.Elements.{any_called}
use Rattle.manifest_parts.proofs.elements.+has_element.Given as goal

abbrev pub invariant-loop-child : goal.invariant-loop-child
invariant-loop-child l = any_called l.wanted (trees (map tree_of (drop l.child-index l.child-items))) ≡ any_called l.wanted (trees (map tree_of l.child-items))
