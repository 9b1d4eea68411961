use Rattle.std.proofs.Common.{◌++◌, ◌∙◌, ap, subst}
use Rattle.std.specs.Str.{IsUtf8}
use Rattle.manifest_tree.specs.declared.node.Attribute.{Attribute}
use Rattle.manifest_tree.specs.WrittenText.{attribute_text, attributes_text}
use Rattle.manifest_tree.proofs.Pushes.{push_item, utf8_item}
use Rattle.manifest_tree.proofs.write.node.push_attributes.Goals as goal

pub loop-attribute-preserved : goal.loop-attribute-preserved
loop-attribute-preserved c =
    let i = c.loop-attribute.attribute-index in
    let a = c.attribute-item.result in
    record {
      text = push_item attribute_text c.args.attributes.now i a c.loop-attribute.out c.push_attribute.new.out (c.args.out.now ++ attributes_text c.args.attributes.now) c.loop-attribute-test.true
          (c.in_ok-push_attribute.ensures.text ∙ ap (λ (x : Attribute). c.loop-attribute.out ++ attribute_text x) c.attribute-item.is) c.loop-attribute.invariant.text;
      utf8 = utf8_item attribute_text c.args.attributes.now i a (attributes_text c.args.attributes.now) c.loop-attribute-test.true
          (subst (λ (x : Attribute). IsUtf8 (attribute_text x)) c.attribute-item.is c.in_ok-push_attribute.ensures.utf8) c.loop-attribute.invariant.utf8;
    }
