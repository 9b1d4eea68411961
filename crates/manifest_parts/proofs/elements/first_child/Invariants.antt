use Rattle.std.proofs.Common.{◌≡◌, drop, map}
use Rattle.std.specs.List.{find}
use Rattle.manifest_tree.specs.Tree.{tree_of}
use Rattle.manifest_parts.specs.Elements.{called}
use Rattle.manifest_parts.proofs.elements.first_child.Given as goal

abbrev pub invariant-loop-child : goal.invariant-loop-child
invariant-loop-child l = find (called l.wanted) (map tree_of (drop l.child-index l.nodes)) ≡ find (called l.wanted) (map tree_of l.nodes)
