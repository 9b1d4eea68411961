use Rattle.std.proofs.Common.{sym, ap, ◌∙◌, arith}
use Rattle.std.specs.List.{find}
use Rattle.manifest_tree.specs.Tree.{tree_of}
use Rattle.manifest_parts.specs.Elements.{called, first_called}
use Rattle.manifest_parts.proofs.Lookups.{find_hits, find_ends}
use Rattle.manifest_parts.proofs.elements.first_child.Goals as goal

pub returns-then-is_called : goal.returns-then-is_called
unfolding first_called
returns-then-is_called c =
    sym (find_hits (called c.args.wanted.now) tree_of c.children-nodes.result.now c.loop-child.child-index c.child-item.result (omega arith) c.child-item.is (sym c.is_called.ensures ∙ c.if-is_called.true))
    ∙ c.loop-child.invariant ∙ ap (find (called c.args.wanted.now)) c.children-nodes.ensures

pub returns : goal.returns
unfolding first_called
returns c =
    sym (find_ends (called c.args.wanted.now) tree_of c.children-nodes.result.now c.loop-child.child-index (omega arith))
    ∙ c.loop-child.invariant ∙ ap (find (called c.args.wanted.now)) c.children-nodes.ensures
