use Rattle.std.proofs.Common.{suc, sym, ap, ◌∙◌, add-one, arith}
use Rattle.manifest_tree.specs.Tree.{tree_of}
use Rattle.manifest_tree.specs.WrittenText.{is_element}
use Rattle.manifest_tree.proofs.Writables.{by_children, by_child, no_more}
use Rattle.manifest_tree.proofs.write.writable.+is_element.Goals as goal

pub returns-then-not-is_element : goal.returns-then-not-is_element
returns-then-not-is_element t c =
    let kids = c.deref-child-items.result.now in
    let all = by_children c.args.level c.args.node.now kids c.deref-child-items.ensures.value (omega arith) (sym c.is_own_part.ensures ∙ c.if-not-is_own_part.false) in
    sym (all ∙ sym c.loop-child.invariant ∙ by_child (suc c.args.level) c.loop-child.child-index kids c.child-item.result c.loop-child-test.true c.child-item.is
    (ap (λ level. is_element level (tree_of c.child-item.result)) (sym (add-one c.args.level)) ∙ sym c.is_element.ensures ∙ c.if-not-is_element.true))

pub returns : goal.returns
returns t c =
    let kids = c.deref-child-items.result.now in
    let all = by_children c.args.level c.args.node.now kids c.deref-child-items.ensures.value (omega arith) (sym c.is_own_part.ensures ∙ c.if-not-is_own_part.false) in
    sym (all ∙ sym c.loop-child.invariant ∙ no_more (suc c.args.level) c.loop-child.child-index kids c.loop-child-test.false)
