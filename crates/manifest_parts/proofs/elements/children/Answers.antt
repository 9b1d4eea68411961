use Rattle.std.proofs.Common.{sym, ap, ◌∙◌, map}
use Rattle.manifest_tree.specs.Tree.{tree_of}
use Rattle.manifest_parts.proofs.Lookups.{children_are}
use Rattle.manifest_parts.proofs.elements.children.Goals as goal

pub returns : goal.returns
returns c = ap (map tree_of) c.as_slice.ensures.value ∙ sym (children_are c.args.node.now)
