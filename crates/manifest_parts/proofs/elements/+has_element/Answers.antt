use Rattle.std.proofs.Common.{true, sym, ap, ◌∙◌, arith}
use Rattle.manifest_parts.proofs.Lookups.{has_root, has_below, any_hits, any_ends}
use Rattle.manifest_parts.proofs.elements.+has_element.Goals as goal

pub returns-then-is_called : goal.returns-then-is_called
returns-then-is_called t c = has_root c.args.wanted.now c.args.node.now (sym c.is_called.ensures ∙ c.if-is_called.true)

pub returns-then-has_element : goal.returns-then-has_element
returns-then-has_element t c =
    has_below c.args.wanted.now c.args.node.now c.deref-child-items.result.now true (sym c.is_called.ensures ∙ c.if-is_called.false) c.deref-child-items.ensures.value
    (sym c.loop-child.invariant ∙ any_hits c.args.wanted.now c.deref-child-items.result.now c.loop-child.child-index c.child-item.result (omega arith) c.child-item.is (sym c.has_element.ensures ∙ c.if-has_element.true))

pub returns : goal.returns
returns t c =
    has_below c.args.wanted.now c.args.node.now c.deref-child-items.result.now _ (sym c.is_called.ensures ∙ c.if-is_called.false) c.deref-child-items.ensures.value
    (sym c.loop-child.invariant ∙ any_ends c.args.wanted.now c.deref-child-items.result.now c.loop-child.child-index (omega arith))
