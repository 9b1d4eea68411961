use Rattle.std.proofs.Common.{◌≡◌, List, ◌++◌, drop, map}
use Rattle.std.specs.Prelude.{filter, codes}
use Rattle.manifest_tree.specs.Tree.{Tree, tree_of}
use Rattle.manifest_parts.specs.Elements.{called}
use Rattle.manifests.specs.Found.{one_with}
use Rattle.manifests.proofs.deployment_entry.Found.with_those_of.Given as goal

abbrev pub invariant-loop-child : goal.invariant-loop-child
invariant-loop-child l =
    (ts : List Tree) → one_with l.found (filter (called (codes "dependentAssembly")) (map tree_of (drop l.child-index l.nodes)) ++ ts)
    ≡ one_with l.self (filter (called (codes "dependentAssembly")) (map tree_of l.nodes) ++ ts)
