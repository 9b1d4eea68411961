use Rattle.std.proofs.Common.{◌≡◌, drop, map}
use Rattle.std.specs.Prelude.{filter, codes}
use Rattle.manifest_tree.specs.Tree.{tree_of}
use Rattle.manifest_parts.specs.Elements.{called}
use Rattle.manifest_parts.specs.Parts.{all_plain}
use Rattle.manifest_parts.proofs.Hashes.{inner}
use Rattle.manifest_parts.proofs.digests.is_plain.Given as goal

abbrev pub invariant-loop-transforms : goal.invariant-loop-transforms
invariant-loop-transforms l =
    all_plain (inner (filter (called (codes "Transforms")) (map tree_of (drop l.transforms-index l.nodes))))
    ≡ all_plain (inner (filter (called (codes "Transforms")) (map tree_of l.nodes)))
