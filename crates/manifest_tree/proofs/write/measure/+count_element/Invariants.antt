use Rattle.std.proofs.Common.{◌≡◌, ◌+◌, ◌≤◌, length, drop}
use Rattle.std.specs.List.{flat_map}
use Rattle.manifest_tree.specs.WrittenText.{counted}
use Rattle.manifest_tree.proofs.Pushes.{greatest, node_text}
use Rattle.manifest_tree.proofs.write.measure.+count_element.Given as goal

abbrev pub invariant-loop-child : goal.invariant-loop-child
invariant-loop-child l = record {
  sum : counted (l.count + length (flat_map node_text (drop l.child-index l.child-items))) ≡ counted (l.initial.count + length (flat_map node_text l.child-items));
  fits : l.count ≤ greatest;
}
