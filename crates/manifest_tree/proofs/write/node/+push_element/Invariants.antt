use Rattle.std.proofs.Common.{◌≡◌, ◌++◌, drop}
use Rattle.std.specs.List.{flat_map}
use Rattle.std.specs.Str.{IsUtf8}
use Rattle.manifest_tree.proofs.Pushes.{node_text}
use Rattle.manifest_tree.proofs.write.node.+push_element.Given as goal

abbrev pub invariant-loop-child : goal.invariant-loop-child
invariant-loop-child l = record {
  text : l.out ++ flat_map node_text (drop l.child-index l.child-items) ≡ l.initial.out ++ flat_map node_text l.child-items;
  utf8 : IsUtf8 (flat_map node_text (drop l.child-index l.child-items)) → IsUtf8 (flat_map node_text l.child-items);
}
