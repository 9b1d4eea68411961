use Rattle.std.proofs.Common.{◌≡◌, drop, map}
use Rattle.std.specs.Prelude.{filter, codes}
use Rattle.manifest_tree.specs.Tree.{tree_of}
use Rattle.manifest_parts.specs.Elements.{called}
use Rattle.manifests.specs.declared.deployment_entry.Found.TheVariants.{Nothing}
use Rattle.manifests.specs.Found.{one_with}
use Rattle.manifests.proofs.FoundLemmas.{those}
use Rattle.manifests.proofs.deployment_entry.assembly_of.Given as goal

abbrev pub invariant-loop-child : goal.invariant-loop-child
invariant-loop-child l =
    one_with l.found (those (filter (called (codes "dependency")) (map tree_of (drop l.child-index l.nodes))))
    ≡ one_with Nothing (those (filter (called (codes "dependency")) (map tree_of l.nodes)))
