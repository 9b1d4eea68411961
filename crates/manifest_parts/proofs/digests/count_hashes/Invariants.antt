use Rattle.std.proofs.Common.{◌≡◌, ◌+◌, ◌≤◌, length, drop, map}
use Rattle.std.specs.Prelude.{filter, codes}
use Rattle.manifest_tree.specs.Tree.{tree_of}
use Rattle.manifest_parts.specs.Elements.{called}
use Rattle.manifest_parts.proofs.digests.count_hashes.Given as goal

abbrev pub invariant-loop-child : goal.invariant-loop-child
invariant-loop-child l =
    (l.count + length (filter (called (codes "hash")) (map tree_of (drop l.child-index l.nodes))) ≡ length (filter (called (codes "hash")) (map tree_of l.nodes)))
    × (l.count ≤ l.child-index)
