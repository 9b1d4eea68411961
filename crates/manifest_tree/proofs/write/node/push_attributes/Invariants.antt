use Rattle.std.proofs.Common.{◌≡◌, ◌++◌, drop}
use Rattle.std.specs.Str.{IsUtf8}
use Rattle.manifest_tree.specs.WrittenText.{attributes_text}
use Rattle.manifest_tree.proofs.write.node.push_attributes.Given as goal

abbrev pub invariant-loop-attribute : goal.invariant-loop-attribute
invariant-loop-attribute l = record {
  text : l.out ++ attributes_text (drop l.attribute-index l.attributes) ≡ l.fn.out ++ attributes_text l.attributes;
  utf8 : IsUtf8 (attributes_text (drop l.attribute-index l.attributes)) → IsUtf8 (attributes_text l.attributes);
}
