use Rattle.std.proofs.Common.{◌+◌, ◌≤◌, ap, length, subst, sym, ◌∙◌, ℕ}
use Rattle.manifest_tree.specs.declared.node.Attribute.{Attribute}
use Rattle.manifest_tree.specs.WrittenText.{attribute_text, attributes_text, counted}
use Rattle.manifest_tree.proofs.Pushes.{count_end, count_item, counted_fits, greatest}
use Rattle.manifest_tree.proofs.write.measure.count_attributes.Goals as goal

pub loop-attribute-preserved : goal.loop-attribute-preserved
loop-attribute-preserved c = record {
  sum =
      count_item attribute_text c.args.attributes.now c.loop-attribute.attribute-index c.attribute-item.result c.loop-attribute.count c.count_attribute-count.result
      (counted (c.args.total + length (attributes_text c.args.attributes.now))) c.loop-attribute-test.true
      (c.count_attribute-count.ensures ∙ ap (λ (a : Attribute). counted (c.loop-attribute.count + length (attribute_text a))) c.attribute-item.is) c.loop-attribute.invariant.sum;
  fits = subst (λ (n : ℕ). n ≤ greatest) (sym c.count_attribute-count.ensures) (counted_fits (c.loop-attribute.count + length (attribute_text c.attribute-item.result)));
}

pub returns : goal.returns
returns c =
    count_end attribute_text c.args.attributes.now c.loop-attribute.attribute-index c.loop-attribute.count (counted (c.args.total + length (attributes_text c.args.attributes.now))) c.loop-attribute-test.false
    c.loop-attribute.invariant.fits c.loop-attribute.invariant.sum
