use Rattle.std.proofs.Common.{◌≡◌, drop, map}
use Rattle.std.specs.Prelude.{filter, codes}
use Rattle.manifest_tree.specs.Tree.{tree_of}
use Rattle.manifest_parts.specs.Elements.{called}
use Rattle.manifest_parts.specs.Parts.{hashes}
use Rattle.manifest_parts.proofs.Hashes.{behind}
use Rattle.manifest_parts.proofs.digests.hashes_of.Given as goal

abbrev pub invariant-loop-child : goal.invariant-loop-child
invariant-loop-child l =
    behind l.digests.items (hashes (filter (called (codes "hash")) (map tree_of (drop l.child-index l.nodes))))
    ≡ hashes (filter (called (codes "hash")) (map tree_of l.nodes))
