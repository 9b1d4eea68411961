use Rattle.std.proofs.Common.{◌≡◌, List, sym, ap, ◌∙◌, arith}
use Rattle.std.specs.Prelude.{Option, option_map}
use Rattle.std.specs.List.{find}
use Rattle.manifest_tree.specs.declared.node.Attribute.{Attribute}
use Rattle.manifest_parts.specs.Elements.{is_attribute, value_of}
use Rattle.manifest_parts.proofs.Lookups.{attributes_are, plain_hits, plain_ends}
use Rattle.manifest_parts.proofs.elements.attribute.Goals as goal

pub returns-then-is_attribute : goal.returns-then-is_attribute
unfolding value_of
returns-then-is_attribute c =
    let here = plain_hits (is_attribute c.args.wanted.now) c.as_slice-attribute-items.result.now c.loop-attribute.attribute-index c.attribute-item.result (omega arith) c.attribute-item.is (sym c.is_attribute.ensures ∙ c.if-is_attribute.true) in
    ap (option_map (λ (a : Attribute). a.value))
    (sym here ∙ c.loop-attribute.invariant ∙ ap (find (is_attribute c.args.wanted.now)) (c.as_slice-attribute-items.ensures ∙ sym (attributes_are c.args.node.now)))

pub returns : goal.returns
unfolding value_of
returns c =
    ap (option_map (λ (a : Attribute). a.value))
    (sym (plain_ends (is_attribute c.args.wanted.now) c.as_slice-attribute-items.result.now c.loop-attribute.attribute-index (omega arith)) ∙ c.loop-attribute.invariant
    ∙ ap (find (is_attribute c.args.wanted.now)) (c.as_slice-attribute-items.ensures ∙ sym (attributes_are c.args.node.now)))
