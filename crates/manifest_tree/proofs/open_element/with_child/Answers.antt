use Rattle.std.proofs.Common.{ap, sym}
use Rattle.manifest_tree.specs.Tree.{Trees}
use Rattle.manifest_tree.proofs.Steps.{child_trees, open_ok}
use Rattle.manifest_tree.proofs.open_element.with_child.Goals as goal

pub returns : goal.returns
returns c =
    ap (λ (ts : Trees). open_ok (record { name = c.args.opened.name; attributes = c.args.opened.attributes.items; children = ts; text = c.args.opened.text.items }))
    (sym (child_trees c.args.opened.children.items c.push.new.self.items c.args.child c.in_ok-push.ensures.items))
