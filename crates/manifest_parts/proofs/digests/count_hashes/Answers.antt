use Rattle.std.proofs.Common.{List, length, ap, arith}
use Rattle.std.specs.Prelude.{codes, filter}
use Rattle.manifest_tree.specs.Tree.{Tree, tree_of}
use Rattle.manifest_parts.specs.Elements.{called, children_called}
use Rattle.manifest_parts.proofs.Lookups.{filter_ends}
use Rattle.manifest_parts.proofs.Hashes.{all_counted}
use Rattle.manifest_parts.proofs.digests.count_hashes.Goals as goal

pub returns : goal.returns
unfolding children_called
returns c =
    all_counted _ _ _ _ c.loop-child.invariant.0 (filter_ends (called (codes "hash")) tree_of c.children-nodes.result.now c.loop-child.child-index (omega arith))
    (ap (λ (ts : List Tree). filter (called (codes "hash")) ts) c.children-nodes.ensures)
