use Rattle.std.proofs.Common.{◌≡◌, drop, map}
use Rattle.std.specs.Prelude.{filter, codes}
use Rattle.manifest_tree.specs.Tree.{tree_of}
use Rattle.manifest_parts.specs.Elements.{called}
use Rattle.manifest_parts.specs.Parts.{all_plain}
use Rattle.manifest_parts.proofs.digests.are_identities.Given as goal

abbrev pub invariant-loop-transform : goal.invariant-loop-transform
invariant-loop-transform l =
    all_plain (filter (called (codes "Transform")) (map tree_of (drop l.transform-index l.nodes)))
    ≡ all_plain (filter (called (codes "Transform")) (map tree_of l.nodes))
