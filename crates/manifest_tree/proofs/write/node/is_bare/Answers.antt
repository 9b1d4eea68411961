use Rattle.std.proofs.Common.{sym, ◌∙◌}
use Rattle.manifest_tree.proofs.Pushes.{with_children}
use Rattle.manifest_tree.proofs.write.node.is_bare.Goals as goal

pub returns-else-is_empty : goal.returns-else-is_empty
returns-else-is_empty c = c.if-is_empty.false ∙ sym (with_children c.args.children.now c.args.text.now (sym c.is_empty.ensures ∙ c.if-is_empty.false))
