use Rattle.std.proofs.Common.{◌≡◌, ◌+◌, ◌≤◌, length, drop}
use Rattle.manifest_tree.specs.WrittenText.{attributes_text, counted}
use Rattle.manifest_tree.proofs.Pushes.{greatest}
use Rattle.manifest_tree.proofs.write.measure.count_attributes.Given as goal

abbrev pub invariant-loop-attribute : goal.invariant-loop-attribute
invariant-loop-attribute l = record {
  sum : counted (l.count + length (attributes_text (drop l.attribute-index l.attributes))) ≡ counted (l.total + length (attributes_text l.attributes));
  fits : l.count ≤ greatest;
}
