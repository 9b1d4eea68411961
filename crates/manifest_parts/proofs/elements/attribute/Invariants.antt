use Rattle.std.proofs.Common.{◌≡◌, drop}
use Rattle.std.specs.List.{find}
use Rattle.manifest_parts.specs.Elements.{is_attribute}
use Rattle.manifest_parts.proofs.elements.attribute.Given as goal

abbrev pub invariant-loop-attribute : goal.invariant-loop-attribute
invariant-loop-attribute l = find (is_attribute l.wanted) (drop l.attribute-index l.attribute-items) ≡ find (is_attribute l.wanted) l.attribute-items
